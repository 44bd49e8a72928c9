-- What a transmitter lane keeps, as contracts see it. A place counts octets of its multiframe.
-- Code: the fields themselves.
use Rattle.std.specs.Prelude.{◌≡◌, ℕ, suc, ◌*◌, ◌%◌, ◌<◌, Bool, true, false, List, [], ◌∷◌, length, Option, Some, None, IsSome}
use Rattle.std.specs.List.{flat_map}
use Rattle.jesd_base.specs.Bits.{bits}
use Rattle.link_params.specs.declared.fields.Params.{Params}
use Rattle.link_params.specs.declared.orders.TxOrder.{TxOrder}
use Rattle.link_params.specs.declared.orders.TxOrder.TheVariants.{Comma, Ilas, Data as DataOrder, Silent, Block}
use Rattle.link_params.specs.Numbers.{period}
use Rattle.link_params.specs.Lanes.{Handed}
use Rattle.code_8b10b.specs.declared.character.Rd.{Rd}
use Rattle.code_8b10b.specs.declared.character.Rd.TheVariants.{Minus}
use Rattle.code_8b10b.specs.declared.character.Char.{Char}
use Rattle.code_8b10b.specs.Code.{after, spelling}
use Rattle.char_replace.specs.kept.Ends.{Sender as Replacer, HasReplaced}
use Rattle.lane_scramble.specs.kept.Scramblers.{HasScrambled15}
use Rattle.lane_b.specs.Sent.{coded_octets, data_octets, replaced, sent_words}

-- the link's parameters, the lane, the disparity, the scrambler's and the replacement's state, and the place in the multiframe of the
-- next data octet, where the last tick was data
pub record Sender : Type 0 where
  pub params : Params
  pub lane : ℕ
  pub rd : Rd
  pub replace : Replacer
  pub scrambler : List Bool
  pub next : Option ℕ

-- the place of a data octet follows the one before; the first one after other orders has place 0
abbrev pub FollowsData : Option ℕ → ℕ → Bool → Type 0
FollowsData None x first = (first ≡ true) × (x ≡ 0)
FollowsData (Some n) x first = (first ≡ false) × (x ≡ n)

-- an order that an 8b/10b lane can be given next
abbrev pub Follows : Params → Option ℕ → TxOrder → Type 0
Follows p next Comma = Unit {0}
Follows p next (Ilas x) = x < 4 * period p
Follows p next (DataOrder x first) = FollowsData next x first
Follows p next Silent = ⊥
Follows p next (Block x first) = ⊥

-- the place of the next data octet after a tick with this order, where it was data
abbrev pub place_after_order : Params → TxOrder → Option ℕ
place_after_order p Comma = None
place_after_order p (Ilas x) = None
place_after_order p (DataOrder x first) = Some (suc x % period p)
place_after_order p Silent = None
place_after_order p (Block x first) = None

-- the last disparity of a chain of words
unfoldable pub rd_after : Rd → List ℕ → Rd
rd_after rd [] = rd
rd_after rd (w ∷ ws) = rd_after (after rd w) ws

-- while data goes on on a scrambled link, the scrambler has taken the octets since it began
abbrev pub ScramblesSo : Sender → Params → List ℕ → Type 0
ScramblesSo now p octets = p.scr ≡ true → HasScrambled15 now.scrambler (flat_map (bits 8) octets)

-- a replacement was handed these coded octets, and gave their characters
abbrev pub Carries : Replacer → Params → List ℕ → Type 0
Carries replace p coded = HasReplaced replace p coded (replaced p coded (length coded))

-- while data goes on, the replacement and the scrambler have taken the octets since it began, and this is the next place
pub record GoesOn (now : Sender) (p : Params) (octets : List ℕ) (x : ℕ) : Type 0 where
  pub place : x ≡ length octets % period p
  pub replaced_so : Carries now.replace p (coded_octets p octets)
  pub scrambled_so : ScramblesSo now p octets

-- the same, where the last tick was data
abbrev pub MayGoOn : Sender → Params → List ℕ → Option ℕ → Type 0
MayGoOn now p octets None = Unit {0}
MayGoOn now p octets (Some x) = GoesOn now p octets x

-- a lane of this link has been handed these since its reset
pub record HasSent (now : Sender) (p : Params) (lane : ℕ) (handed : List Handed) : Type 0 where
  pub params : now.params ≡ p
  pub of_lane : now.lane ≡ lane
  pub rd : now.rd ≡ rd_after Minus (sent_words p lane handed)
  pub data_goes_on : MayGoOn now p (data_octets [] handed) now.next

-- place x is the next one of a replacement
pub record IsPlaced (replace : Replacer) (p : Params) (x : ℕ) : Type 0 where
  pub octets : List ℕ
  pub chars : List Char
  pub replaced_so : HasReplaced replace p octets chars
  pub place : x ≡ length octets % period p

-- where the last tick was data, the next place is the next one of the replacement
abbrev pub HasPlace : Params → Replacer → Option ℕ → Type 0
HasPlace p replace None = Unit {0}
HasPlace p replace (Some x) = IsPlaced replace p x

-- a character that can be sent at either disparity
pub record HasSpellings (c : Char) : Type 0 where
  pub at : (rd : Rd) → IsSome (spelling rd c)

-- the link, the lane and the disparity stay
pub record IsSameLink (old new : Sender) : Type 0 where
  pub params : new.params ≡ old.params
  pub of_lane : new.lane ≡ old.lane
  pub rd : new.rd ≡ old.rd
