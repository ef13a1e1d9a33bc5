-- What the definitions say of some notices.
use Rattle.std.proofs.Common.{◌≡◌, [], ◌∷◌, refl}
use Rattle.station_state.specs.declared.class.Notice.TheVariants.{Deauthenticate, Disassociate}
use Rattle.mac_frame.specs.Samples.{network, station}
use Rattle.association.specs.Samples.{frame}
use Rattle.association.specs.Leaving.{notice_frame}

an_unknown_station_is_deauthenticated :
    notice_frame station network 0 (Deauthenticate 6)
    ≡ 0xc0 ∷ 0x00 ∷ 0x00 ∷ 0x00
    ∷ 0x02 ∷ 0xaa ∷ 0x00 ∷ 0x00 ∷ 0x00 ∷ 0x01
    ∷ 0x02 ∷ 0x00 ∷ 0x00 ∷ 0x00 ∷ 0x00 ∷ 0x01
    ∷ 0x02 ∷ 0x00 ∷ 0x00 ∷ 0x00 ∷ 0x00 ∷ 0x01
    ∷ 0x00 ∷ 0x00
    ∷ 0x06 ∷ 0x00 ∷ []
an_unknown_station_is_deauthenticated = refl

an_authenticated_station_is_disassociated : notice_frame station network 1 (Disassociate 7)
    ≡ frame 0xa0 station 0x10 0x00 (0x07 ∷ 0x00 ∷ [])
an_authenticated_station_is_disassociated = refl

a_reason_goes_low_octet_first : notice_frame station network 4095 (Deauthenticate 0x0102)
    ≡ frame 0xc0 station 0xf0 0xff (0x02 ∷ 0x01 ∷ [])
a_reason_goes_low_octet_first = refl
