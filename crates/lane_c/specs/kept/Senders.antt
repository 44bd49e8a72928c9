-- What a transmitter lane keeps, as contracts see it. A place counts blocks of its extended
-- multiblock.
-- Code: the fields themselves.
use Rattle.std.specs.Prelude.{◌≡◌, ◌<◌, ◌≤◌, ℕ, suc, ◌+◌, ◌*◌, ◌%◌, Bool, true, false, List, [], length, take, drop, Option, Some, None}
use Rattle.std.specs.List.{flat_map}
use Rattle.jesd_base.specs.Bits.{bits}
use Rattle.link_params.specs.declared.fields.Params.{Params}
use Rattle.link_params.specs.declared.orders.TxOrder.{TxOrder}
use Rattle.link_params.specs.declared.orders.TxOrder.TheVariants.{Comma, Ilas, Data, Silent, Block}
use Rattle.link_params.specs.Lanes.{Handed}
use Rattle.link_params.specs.Numbers.{period}
use Rattle.lane_scramble.specs.kept.Scramblers.{HasScrambled58}
use Rattle.fire_fec.specs.Corrects.{payload_bits}
use Rattle.lane_c.specs.Sent.{octets_sent, payload_of, word_of}

-- the link's parameters, the scrambler's state, the scrambled payloads of the multiblock, its sync
-- word, and the place in the extended multiblock of the next block, once the first one was sent
pub record Sender : Type 0 where
  pub params : Params
  pub scrambler : List Bool
  pub payload : List ℕ
  pub word : ℕ
  pub next : Option ℕ

-- the place of a block follows the one before; the first one has place 0
abbrev pub FollowsBlock : Option ℕ → ℕ → Bool → Type 0
FollowsBlock None x first = (first ≡ true) × (x ≡ 0)
FollowsBlock (Some n) x first = (first ≡ false) × (x ≡ n)

-- silence goes on until the first block
abbrev pub MayBeSilent : Option ℕ → Type 0
MayBeSilent None = Unit {0}
MayBeSilent (Some n) = ⊥

-- an order that a 64b/66b lane can be given next
abbrev pub Follows : Option ℕ → TxOrder → Type 0
Follows next Comma = ⊥
Follows next (Ilas x) = ⊥
Follows next (Data x first) = ⊥
Follows next Silent = MayBeSilent next
Follows next (Block x first) = FollowsBlock next x first

-- the place of the next block after a tick with this order, where it was a block
abbrev pub place_after_order : Params → TxOrder → Option ℕ
place_after_order p Comma = None
place_after_order p (Ilas x) = None
place_after_order p (Data x first) = None
place_after_order p Silent = None
place_after_order p (Block x first) = Some (suc x % period p)

-- m blocks of multiblock j were sent
pub record IsIn (payload : List ℕ) (word : ℕ) (p : Params) (octets : List ℕ)
    (j m : ℕ) : Type 0 where
  pub count : length octets ≡ 32 * j + m
  pub sync : bits 32 word ≡ word_of p (payload_of octets) j
  pub blocks : payload_bits (take m payload) ≡ drop (2048 * j) (payload_of octets)

-- blocks of these octets were sent, and this is the place of the next one
pub record GoesOn (now : Sender) (p : Params) (octets : List ℕ) (x : ℕ) : Type 0 where
  pub place : x ≡ length octets % period p
  pub scrambled_so : HasScrambled58 now.scrambler (flat_map (bits 64) octets)
  pub multiblock : ℕ
  pub blocks : ℕ
  pub some : 0 < blocks
  pub most : blocks ≤ 32
  pub inside : IsIn now.payload now.word p octets multiblock blocks

-- a block more can be sent in the same multiblock
pub record IsReady (now : Sender) (p : Params) (octets : List ℕ) (x : ℕ) : Type 0 where
  pub place : x ≡ length octets % period p
  pub scrambled_so : HasScrambled58 now.scrambler (flat_map (bits 64) octets)
  pub multiblock : ℕ
  pub blocks : ℕ
  pub room : blocks < 32
  pub inside : IsIn now.payload now.word p octets multiblock blocks

-- blocks of these octets were sent, where the lane is not silent
abbrev pub MayGoOn : Sender → Params → List ℕ → Option ℕ → Type 0
MayGoOn now p octets None = (octets ≡ []) × HasScrambled58 now.scrambler []
MayGoOn now p octets (Some x) = GoesOn now p octets x

-- a lane of this link has been handed these since its reset
pub record HasSent (now : Sender) (p : Params) (handed : List Handed) : Type 0 where
  pub params : now.params ≡ p
  pub goes_on : MayGoOn now p (octets_sent handed) now.next

-- the place of the next block is below the period
abbrev pub HasPlace : Params → Option ℕ → Type 0
HasPlace p None = Unit {0}
HasPlace p (Some x) = x < period p
