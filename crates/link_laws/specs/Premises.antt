-- What the laws over a run presume: an undisturbed line, SYSREF edges and lanes within their
-- windows (JESD204B.01 clause 6, deterministic latency; the premises are this project's own).
-- Code: none of this is computed.
use Rattle.std.specs.Prelude.{◌≡◌, ◌⊎◌, ℕ, ◌+◌, ◌-◌, ◌*◌, ◌/◌, ◌%◌, ◌==◌, ◌<◌, ◌≤◌, Bool, true, false, ◌&&◌, List, drop, take, Some, nat_abs, length, is_some}
use Rattle.std.specs.List.{flat_map, list_any}
use Rattle.link_params.specs.declared.alarms.Device.{Device}
use Rattle.link_params.specs.declared.alarms.Device.TheVariants.{Tx}
use Rattle.link_params.specs.declared.fields.Mode.TheVariants.{CFec}
use Rattle.link_params.specs.declared.fields.Params.{Params}
use Rattle.link_params.specs.Laws.{ceil, is_b}
use Rattle.link_params.specs.Lanes.{LaneKind, Taken}
use Rattle.link_params.specs.Numbers.{width}
use Rattle.scenario.specs.declared.plan.Event.{Event}
use Rattle.multiblock.specs.Places.{pattern as found_pattern, span}
use Rattle.scenario.specs.Plans.{Plan, numbers_from}
use Rattle.link_model.specs.Edges.{edge_tick, jitter, last_reset, phase}
use Rattle.link_model.specs.Carried.{delay_at, is_dead, is_inverted}
use Rattle.link_model.specs.Run.{run}
use Rattle.link_model.specs.Receives.{taken_in}
use Rattle.link_model.specs.Sessions.{first_tick}
use Rattle.link_model.specs.Wiring.{has_inverted_polarity, route_of, wire_of}

-- ---- a disturbed tick

-- a record `reset`, `delay` or `dead` has tick t
abbrev pub has_event : Plan → ℕ → Bool
has_event s t = list_any (λ (e : Event). e.tick == t) s.events

-- some lane is dead in tick t
abbrev pub has_dead : Plan → ℕ → Bool
has_dead s t = list_any (λ lane. is_dead s lane t) (numbers_from 0 s.link.params.l)

-- received bit i of a lane is an inverted one: it was sent, and it is flipped
pub record IsInverted (s : Plan) (lane i : ℕ) : Type 0 where
  pub of_link : lane < s.link.params.l
  pub sent : delay_at s lane (i / width s.link.params) ≤ i
  pub flipped : is_inverted s lane i ≡ true

-- each receiver lane is set to be the lane of the frame whose transmitter lane it is wired to, and
-- undoes the exchange of its wires where they are exchanged, and only there
pub record IsSetAsWired (s : Plan) : Type 0 where
  pub routed : (lane : ℕ) → lane < s.link.params.l → wire_of s lane ≡ route_of s lane
  pub polarity : (lane : ℕ) → lane < s.link.params.l → has_inverted_polarity s lane ≡ false

-- no event and no dead lane in the ticks from h + 1 to t
pub record Untouched (s : Plan) (h t : ℕ) : Type 0 where
  pub no_event : (x : ℕ) → h < x → x ≤ t → has_event s x ≡ false
  pub alive : (x : ℕ) → h < x → x ≤ t → has_dead s x ≡ false

-- received bit i comes in one of the ticks from h + 1 to t
abbrev pub ComesIn : Plan → ℕ → ℕ → ℕ → Type 0
ComesIn s h t i = (h < i / width s.link.params) × (i / width s.link.params ≤ t)

-- the lanes are set as they are wired, and no tick from h + 1 to t is disturbed: no event, no dead lane, no
-- inverted bit
pub record Clean (s : Plan) (h t : ℕ) : Type 0 where
  pub set_as_wired : IsSetAsWired s
  pub untouched : Untouched s h t
  pub upright : (lane i : ℕ) → ComesIn s h t i → IsInverted s lane i → ⊥

-- ---- one burst in a multiblock

-- a payload bit: the tick in which its multiblock began, and its number among the multiblock's
-- 2,048
pub record PayloadBit : Type 0 where
  pub multiblock : ℕ
  pub bit : ℕ

-- bit x of the block sent in tick q, at this phase of the transmitter; the two bits of the header
-- are none
pub record IsPayloadBit (s : Plan) (q x : ℕ) (b : PayloadBit) : Type 0 where
  pub place : ℕ
  pub phase : phase s Tx q ≡ Some place
  pub began : b.multiblock + place % 32 ≡ q
  pub behind_header : x ≡ 2 + b.bit % 64
  pub number : b.bit / 64 ≡ place % 32

-- received bit i of a lane is this payload bit
abbrev pub ReceivesBit : Plan → ℕ → ℕ → PayloadBit → Type 0
ReceivesBit s lane i b = let sent = i - delay_at s lane (i / 66) in
    IsPayloadBit s (sent / 66) (sent % 66) b

-- as clean, but with FEC received bits may be inverted from h + 1 to t: payload bits alone, in each
-- multiblock within nine consecutive ones
pub record OneBurst (s : Plan) (h t : ℕ) : Type 0 where
  pub fec : s.link.params.mode ≡ CFec
  pub set_as_wired : IsSetAsWired s
  pub untouched : Untouched s h t
  pub payload : (lane i : ℕ) → ComesIn s h t i → IsInverted s lane i
      → (b : PayloadBit) × ReceivesBit s lane i b
  pub near : (lane i j : ℕ) (b c : PayloadBit) → ComesIn s h t i → ComesIn s h t j
      → IsInverted s lane i → IsInverted s lane j
      → ReceivesBit s lane i b → ReceivesBit s lane j c → b.multiblock ≡ c.multiblock
      → b.bit ≤ c.bit + 8

-- clean, or with one burst in each multiblock at most
abbrev pub Undamaged : Plan → ℕ → ℕ → Type 0
Undamaged s h t = Clean s h t ⊎ OneBurst s h t

-- ---- SYSREF and the lanes

-- edge i gave a device its phase of tick t: it is the first one captured since the device's last
-- reset
pub record GivesPhase (s : Plan) (d : Device) (t i : ℕ) : Type 0 where
  pub since : last_reset s d t ≤ edge_tick s d i
  pub by : edge_tick s d i ≤ t
  pub first : (k : ℕ) → last_reset s d t ≤ edge_tick s d k → edge_tick s d i ≤ edge_tick s d k

-- each device's phase at t, where it has one, was taken from an edge whose jitter is at most the
-- tolerance in size
abbrev pub Met : Plan → ℕ → Type 0
Met s t = (d : Device) (i : ℕ) → GivesPhase s d t i
    → nat_abs (jitter s.jitters d i) ≤ s.link.timing.tolerance

-- the arrival of a lane, in ticks, by its delay in force at t (in bits; of a plan whose events
-- stand in the order of ticks, as the reading puts them, this is the delay of the last event up to
-- t)
abbrev pub arrival : Plan → ℕ → ℕ → ℕ
arrival s lane t = ceil (delay_at s lane t) (width s.link.params)

-- a lane's arrival is within its window
abbrev pub IsWithin : Plan → ℕ → ℕ → Type 0
IsWithin s lane t = (s.link.timing.w_lo ≤ arrival s lane t)
    × (arrival s lane t ≤ s.link.timing.w_hi)

-- and so are all lanes'
abbrev pub Inside : Plan → ℕ → Type 0
Inside s t = (lane : ℕ) → lane < s.link.params.l → IsWithin s lane t

-- ---- no pattern but the true ones

-- whether some bits are a pattern by which a lane locks
abbrev pub Pattern : Type 0
Pattern = Params → List Bool → Bool

-- the pattern by which a 64b/66b lane locks, and nothing more: 32·V blocks with good headers, sync
-- words that end in 00001, and end bits of one remainder
abbrev pub lock_pattern : Pattern
lock_pattern p bs = (length bs == span p.e) && is_some (found_pattern p.e bs)

-- received bit i of a lane is the first bit of a block whose tick is a multiple of 32 ticks from
-- the edge that gave the transmitter its phase of t
pub record IsOnGrid (s : Plan) (lane t i : ℕ) : Type 0 where
  pub edge : ℕ
  pub gives : GivesPhase s Tx t edge
  pub sent : delay_at s lane t ≤ i
  pub whole : (i - delay_at s lane t) % 66 ≡ 0
  pub step : (i - delay_at s lane t) / 66 % 32 ≡ edge_tick s Tx edge % 32

-- all bits that a lane took from the first tick of the session of hunt h on, up to tick t, whatever
-- hunts begin meanwhile
abbrev pub bits_since : LaneKind → Plan → ℕ → ℕ → ℕ → List Bool
bits_since kind s h lane t =
    flat_map (λ (x : Taken). x.word)
    (taken_in (drop (first_tick kind s h) (run kind s (t + 1))) lane)

-- with 64b/66b lanes, from the hunt's first bit to the bits of t no n bits from a place on are the
-- pattern unless the place is on the grid
abbrev pub Lone : LaneKind → Pattern → Plan → ℕ → ℕ → Type 0
Lone kind pattern s h t = is_b s.link.params.mode ≡ false → (lane x n : ℕ) → lane < s.link.params.l
    → pattern s.link.params (take n (drop x (bits_since kind s h lane t))) ≡ true
    → IsOnGrid s lane t (width s.link.params * first_tick kind s h + x)
