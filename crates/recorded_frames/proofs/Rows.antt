-- What is opened to compute the definitions on a frame, and rows that are shown one after another.
use Rattle.std.specs.Prelude.{⊤}
use Rattle.hex.proofs.OnLiterals.{hex_on_literals}
use Rattle.elements.specs.Elements.{elements_of, elements_within}
use Rattle.tim.specs.Tim.{tim_octets, partial_of, from_first_pair, up_to_last, virtual_bitmap, octet_at, bits_from}
use Rattle.beacon.specs.Advert.{timestamp, fixed_fields, network_elements}
use Rattle.beacon.specs.Beacon.{dtim_count}
use Rattle.recorded_frames.specs.Sent.{put_all}

-- what a frame is read by
unfoldable pub read_on_literals : ⊤
unfolding hex_on_literals elements_of elements_within
read_on_literals = tt

-- what a frame of hostapd is held against
unfoldable pub sent_on_literals : ⊤
unfolding read_on_literals put_all timestamp fixed_fields network_elements dtim_count tim_octets partial_of
    from_first_pair up_to_last virtual_bitmap octet_at bits_from
sent_on_literals = tt

infixr 5 ◌also◌
pub ◌also◌ : {A B : Type 0} → A → B → A × B
a also b = (a, b)
