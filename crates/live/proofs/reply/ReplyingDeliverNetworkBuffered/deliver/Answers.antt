use Rattle.std.proofs.Common.{ap}
use Rattle.std.specs.Prelude.{option_to_list}
use Rattle.network.specs.ReceivedEvents.{event_received}
use Rattle.live.specs.Written.{written_reply}
use Rattle.live_rules.specs.Moments.{Sends, Refuses}
use Rattle.live.proofs.ReplySteps.{sends-may, refuses-may}
use Rattle.text_io.specs.BufferLaws.{Puts-same}
use Rattle.live.proofs.reply.ReplyingDeliverNetworkBuffered.deliver.Goals as goal

pub returns-in-Ok-clause-delivered : goal.returns-in-Ok-clause-delivered
returns-in-Ok-clause-delivered g c =
    let sent = c.in-Ok.sent in record {
      reply = Sends sent.air (option_to_list sent.wire);
      may =
          sends-may c.args.network.now (event_received c.args.event.now) c.take_received.result sent c.in-Ok.is c.in-Ok.ensures.ok.air
          c.in-Ok.ensures.ok.wire c.take_received.ensures.clock;
      after = c.in-Ok.ensures.ok.after;
      puts =
          Puts-same
          (ap
          (λ s. written_reply c.args.self.now.face c.args.self.now.number s.network.bssid (Sends sent.air (option_to_list sent.wire)))
          c.setting.ensures.setting)
          (c.put_sent.ensures c.args.self.now.number);
    }

pub returns-in-Err-clause-delivered : goal.returns-in-Err-clause-delivered
returns-in-Err-clause-delivered g c =
    let why = c.in-Err.why in record {
      reply = Refuses why;
      may =
          refuses-may c.args.network.now (event_received c.args.event.now) c.take_received.result why c.in-Err.is
          c.take_received.ensures.clock;
      after = c.in-Err.ensures.err;
      puts =
          Puts-same
          (ap (λ s. written_reply c.args.self.now.face c.args.self.now.number s.network.bssid (Refuses why)) c.setting.ensures.setting)
          c.put_refusal.ensures;
    }

pub returns-in-Ok-clause-ready : goal.returns-in-Ok-clause-ready
returns-in-Ok-clause-ready g c = (c.put_sent.ensures c.args.self.now.number).can_write
