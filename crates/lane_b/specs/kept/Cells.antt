-- What a receiver lane keeps of its data, as contracts see it.
-- Code: the fields themselves.
use Rattle.std.specs.Prelude.{◌≡◌, ℕ, Bool, false, List, [], ◌∷◌, map, length}
use Rattle.std.specs.List.{flat_map}
use Rattle.jesd_base.specs.Bits.{bits}
use Rattle.link_params.specs.declared.fields.Params.{Params}
use Rattle.code_8b10b.specs.declared.character.Reading.{Reading}
use Rattle.char_replace.specs.kept.Ends.{Receiver, HasRestored}
use Rattle.lane_scramble.specs.kept.Scramblers.{HasDescrambled15}
use Rattle.lane_b.specs.Received.{restored}

-- the parameters, the restorer, the descrambler, and whether the last data character and the one before it were bad
pub record Giver : Type 0 where
  pub params : Params
  pub restore : Receiver
  pub scrambler : List Bool
  pub one_bad : Bool
  pub two_bad : Bool

-- the last of a list of bits after these two, and the one before it
unfoldable pub last_of : Bool → List Bool → Bool
last_of one [] = one
last_of one (b ∷ bs) = last_of b bs

unfoldable pub last_but_one_of : Bool → Bool → List Bool → Bool
last_but_one_of two one [] = two
last_but_one_of two one (b ∷ bs) = last_but_one_of one b bs

-- the octets of readings before descrambling, and which are bad before the scrambler spreads it
abbrev pub octets_read : Params → List Reading → List ℕ
octets_read p read = map (λ g. g.octet) (restored p read (length read))

abbrev pub bad_read : Params → List Reading → List Bool
bad_read p read = map (λ g. g.bad) (restored p read (length read))

-- the data of a lane of this link has had these readings
pub record HasReadData (now : Giver) (p : Params) (read : List Reading) : Type 0 where
  pub params : now.params ≡ p
  pub restored_so : HasRestored now.restore p read (restored p read (length read))
  pub descrambled_so : HasDescrambled15 now.scrambler (flat_map (bits 8) (octets_read p read))
  pub one_bad : now.one_bad ≡ last_of false (bad_read p read)
  pub two_bad : now.two_bad ≡ last_but_one_of false false (bad_read p read)
