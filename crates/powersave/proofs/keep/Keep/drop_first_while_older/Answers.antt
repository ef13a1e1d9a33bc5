use Rattle.std.proofs.Common.{◌≡◌, List, length, sym, ap, ◌∙◌, subst, arith}
use Rattle.powersave.specs.Keep.{Entry, Kept, units_for, without_oldest, without_older, room_beside, CameInOrder}
use Rattle.powersave.proofs.Older.{older_count, older-few, one-less, in-order_later, none-left}
use Rattle.powersave.proofs.keep.Keep.drop_first_while_older.Goals as goal

pub overflow_add-dropped : goal.overflow_add-dropped
overflow_add-dropped c =
    let whom = c.args.whom.now in
    let es : List Entry = c.loop-self.self.entries in
    let less = one-less whom c.args.limit es (sym c.has_older.ensures ∙ c.loop-self-test.true) in
    omega (arith, less.1, c.loop-self.invariant.count, older-few whom c.args.limit c.args.self.now.entries, ap (λ (k : Kept). length k.entries) c.self.view_is, c.self.invariant.counted, c.self.invariant.within)

pub loop-self-smaller : goal.loop-self-smaller
loop-self-smaller c =
    let whom = c.args.whom.now in
    let es : List Entry = c.loop-self.self.entries in
    let less = one-less whom c.args.limit es (sym c.has_older.ensures ∙ c.loop-self-test.true) in
    let left : older_count whom c.args.limit c.drop_first.new.self.entries ≡ older_count whom c.args.limit (without_oldest whom es) = ap (λ (k : Kept). older_count whom c.args.limit k.entries) c.drop_first.ensures in
    omega (arith, less.1, left)

pub loop-self-preserved : goal.loop-self-preserved
loop-self-preserved c =
    let whom = c.args.whom.now in
    let h = c.loop-self.invariant in
    let es : List Entry = c.loop-self.self.entries in
    let less = one-less whom c.args.limit es (sym c.has_older.ensures ∙ c.loop-self-test.true) in
    let entries : c.drop_first.new.self.entries ≡ without_oldest whom es = ap (λ (k : Kept). k.entries) c.drop_first.ensures in
    let left : older_count whom c.args.limit c.drop_first.new.self.entries ≡ older_count whom c.args.limit (without_oldest whom es) = ap (older_count whom c.args.limit) entries in
    let room : c.drop_first.new.self.reserved ≡ c.args.self.now.reserved = ap (λ (k : Kept). k.reserved) c.drop_first.ensures ∙ ap (λ (k : Kept). room_beside whom k.reserved) h.same ∙ c.requires.room in
    record {
      count = omega (arith, less.1, left, h.count);
      rest = ap (without_older whom c.args.limit) entries ∙ less.0 ∙ h.rest;
      in_order = subst (λ (fs : List Entry). CameInOrder (units_for whom fs)) (sym entries) (in-order_later whom c.args.limit es h.in_order);
      same = λ i. record {
        quota = (ap (λ (k : Kept). k.quota) c.drop_first.ensures ∙ ap (λ (k : Kept). k.quota) h.same) i;
        entries = c.drop_first.new.self.entries;
        reserved = room i;
        puts = (ap (λ (k : Kept). k.puts) c.drop_first.ensures ∙ ap (λ (k : Kept). k.puts) h.same) i;
        in_front = (ap (λ (k : Kept). k.in_front) c.drop_first.ensures ∙ ap (λ (k : Kept). k.in_front) h.same) i;
      };
    }

pub returns-clause-count : goal.returns-clause-count
returns-clause-count c =
    let whom = c.args.whom.now in
    let left = none-left whom c.args.limit c.loop-self.self.entries c.loop-self.invariant.in_order (sym c.has_older.ensures ∙ c.loop-self-test.false) in
    omega (arith, left.1, c.loop-self.invariant.count)

pub returns-clause-after : goal.returns-clause-after
returns-clause-after c =
    let whom = c.args.whom.now in
    let left = none-left whom c.args.limit c.loop-self.self.entries c.loop-self.invariant.in_order (sym c.has_older.ensures ∙ c.loop-self-test.false) in
    c.loop-self.invariant.same ∙ ap (λ (es : List Entry). record c.args.self.now { entries = es }) (sym left.0 ∙ c.loop-self.invariant.rest)
