use Rattle.std.proofs.Common.{◌≡◌, ℕ, ◌-◌, ◌^◌, ◌<◌, List, [], ◌∷◌, fold, length, ◌∙◌, arith}
use Rattle.std.specs.Int.{from_be_bytes, w64}
use Rattle.link_run.proofs.FrameOctets.{behind}
use Rattle.link_run.proofs.frame_octets.joined.Goals as goal

-- eight octets leave nothing of the number before them, which is 0
eight-octets : (octets : List ℕ) (number : ℕ) → length octets ≡ 8
    → number < 256 ^ (8 - length octets) → from_be_bytes w64 octets ≡ fold behind number octets
eight-octets (a ∷ b ∷ c ∷ d ∷ e ∷ f ∷ g ∷ h ∷ []) number long none = omega arith
eight-octets octets number long none = absurd (omega arith)

pub returns-in-len8 : goal.returns-in-len8
returns-in-len8 c = c.from_be_bytes-in-len8.ensures
    ∙ eight-octets c.args.octets.now c.args.number (omega arith) c.requires.small
