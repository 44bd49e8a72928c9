-- The lane laws: when a lane locks, when it starts, and what it hands on (JESD204B.01 clauses
-- 5.3.3.1 code group synchronization, 5.3.3.5 initial lane alignment and 6 deterministic latency).
-- They speak of the session of a hunt h and of a tick t of it; a is the lane's arrival by its delay
-- in force at h.
-- Code: none of this is computed.
use Rattle.std.specs.Prelude.{◌≡◌, ◌≢◌, ℕ, ◌+◌, ◌-◌, ◌*◌, ◌==◌, ◌<◌, ◌≤◌, Bool, true, false, if◌then◌else◌, slice_get, slice_index, Some, None, is_some}
use Rattle.link_params.specs.declared.alarms.Device.TheVariants.{Tx}
use Rattle.link_params.specs.declared.cells.Mark.{Mark}
use Rattle.link_params.specs.declared.cells.Mark.TheVariants.{Ok as Good, Bad}
use Rattle.link_params.specs.declared.ilas_state.IlasState.{IlasState}
use Rattle.link_params.specs.declared.ilas_state.IlasState.TheVariants.{Idle, Going, Done, Fault}
use Rattle.link_params.specs.declared.orders.TxOrder.{TxOrder}
use Rattle.link_params.specs.declared.orders.TxOrder.TheVariants.{Comma, Ilas, Data as DataOrder, Silent, Block}
use Rattle.link_params.specs.Laws.{is_b}
use Rattle.link_params.specs.Links.{Link}
use Rattle.link_params.specs.Lanes.{Entry, Placed, Held, LaneKind, is_inside}
use Rattle.link_params.specs.Numbers.{period, wait}
use Rattle.bring_up.specs.declared.stage.Decision.TheVariants.{Arm}
use Rattle.scenario.specs.Plans.{Plan}
use Rattle.link_model.specs.Edges.{phase}
use Rattle.link_model.specs.Sessions.{InSession, at, entries_at, first_tick, is_armed, report_at}
use Rattle.link_model.specs.Wiring.{wire_of}
use Rattle.link_laws.specs.Premises.{Clean, Lone, Pattern, Undamaged, arrival}

-- ---- the lock

-- the ticks from a hunt on after which a lane that is not armed is locked
abbrev pub lock_ticks : Link → ℕ
lock_ticks k = if is_b k.params.mode then 4 * period k.params else k.timing.sysref_period
    + 8 * period k.params + 256

-- a lane that is not armed is locked in time, and a 64b/66b lane only where the transmitter has a
-- phase
pub record IsLocking (kind : LaneKind) (s : Plan) (h lane t : ℕ) : Type 0 where
  pub locks : h + lock_ticks s.link ≤ t → is_armed kind s t ≡ false
      → (report_at kind s lane t).locked ≡ true
  pub to_sender : is_b s.link.params.mode ≡ false → (report_at kind s lane t).locked ≡ true
      → is_some (phase s Tx t) ≡ true

-- on a clean line an unarmed lane is locked after so many ticks; a 64b/66b lane is locked only
-- where the transmitter has a phase
abbrev pub LaneLock : LaneKind → Pattern → Plan → Type 0
LaneLock kind pattern s = (h lane t : ℕ) → lane < s.link.params.l → InSession kind s h t
    → Lone kind pattern s h t → Clean s h t
    → IsLocking kind s h lane t

-- the second half under Clean alone, since Lone of a later tick does not give Lone of an earlier
-- one: on a clean line a 64b/66b lane is locked only where the transmitter has a phase
abbrev pub LaneSender : LaneKind → Plan → Type 0
LaneSender kind s = (h lane t : ℕ) → is_b s.link.params.mode ≡ false → lane < s.link.params.l
    → InSession kind s h t → Clean s h t
    → (report_at kind s lane t).locked ≡ true → is_some (phase s Tx t) ≡ true

-- ---- the start

-- the lanes were armed by the decision of tick A of the session, below t
pub record ArmedBy (kind : LaneKind) (s : Plan) (h t A : ℕ) : Type 0 where
  pub in_session : first_tick kind s h ≤ A
  pub below : A < t
  pub arms : (at kind s A).decided.decision ≡ Arm

-- an order sends what starts a lane: place 0 of the alignment sequence, or the first block of an
-- extended multiblock
abbrev pub is_first_place : TxOrder → Bool
is_first_place (Ilas x) = x == 0
is_first_place (Block x first) = x == 0
is_first_place Comma = false
is_first_place (DataOrder x first) = false
is_first_place Silent = false

-- how long after it was sent what starts a lane is seen: a first block once it leaves the wait for
-- its check
abbrev pub due_after : Plan → ℕ → ℕ → ℕ
due_after s lane h = arrival s lane h + wait s.link.params

-- what tick q sends comes after the arming of tick A: it is sent after A, and of 64b/66b lanes it
-- is seen after A
abbrev pub ComesAfter : Plan → ℕ → ℕ → ℕ → ℕ → Type 0
ComesAfter s lane h A q = A < q + (if is_b s.link.params.mode then 0 else due_after s lane h)

-- q is the least tick that sends what starts a lane and comes after the arming of tick A
pub record IsStartSent (kind : LaneKind) (s : Plan) (lane h A q : ℕ) : Type 0 where
  pub sent : is_first_place (at kind s q).order ≡ true
  pub comes : ComesAfter s lane h A q
  pub least : (i : ℕ) → ComesAfter s lane h A i → is_first_place (at kind s i).order ≡ true → q ≤ i

-- by tick t the lane has started in tick x of the session: its reports show no start before x, and
-- the offset of tick x from x to t
pub record HasStarted (kind : LaneKind) (s : Plan) (h lane t x : ℕ) : Type 0 where
  pub from : first_tick kind s h ≤ x
  pub by : x ≤ t
  pub none_before : (i : ℕ) → first_tick kind s h ≤ i → i < x
      → (report_at kind s lane i).started ≡ None
  pub shows : (i : ℕ) → x ≤ i → i ≤ t
      → (report_at kind s lane i).started ≡ Some (at kind s x).told.offset

-- the lane starts where what starts it was sent, and nowhere else
pub record IsStarting (kind : LaneKind) (s : Plan) (h lane t : ℕ) : Type 0 where
  pub starts : (A q : ℕ) → ArmedBy kind s h t A → IsStartSent kind s lane h A q
      → q + due_after s lane h ≤ t
      → HasStarted kind s h lane t (q + due_after s lane h)
  pub no_other : (A : ℕ) → ArmedBy kind s h t A
      → ((q : ℕ) → IsStartSent kind s lane h A q → t < q + due_after s lane h)
      → (i : ℕ) → first_tick kind s h ≤ i → i ≤ t → (report_at kind s lane i).started ≡ None
  pub one : is_b s.link.params.mode ≡ true → (A q r : ℕ) → ArmedBy kind s h t A → A < q → A < r
      → q ≤ t → r ≤ t
      → is_first_place (at kind s q).order ≡ true → is_first_place (at kind s r).order ≡ true
      → q ≡ r
  pub unarmed : is_armed kind s t ≡ false → (report_at kind s lane t).started ≡ None

-- q is the least tick that sends what starts a lane and comes after the arming. An armed lane has
-- started by t exactly where q + a + wait is at most t, and in that tick; with 8b/10b lanes q is
-- the one such tick after the arming; before the lanes are armed none has started
abbrev pub LaneStart : LaneKind → Pattern → Plan → Type 0
LaneStart kind pattern s = (h lane t : ℕ) → lane < s.link.params.l → InSession kind s h t
    → Lone kind pattern s h t → Undamaged s h t
    → IsStarting kind s h lane t

-- ---- the data

-- an entry carries what an order sent with these octets: a place of the alignment sequence, or the
-- octets before scrambling
abbrev pub Carries : TxOrder → ℕ → Entry → Type 0
Carries (Ilas x) octets Placed = Unit {0}
Carries (Ilas x) octets (Held c) = ⊥
Carries (DataOrder x first) octets (Held c) = c.value ≡ octets
Carries (DataOrder x first) octets Placed = ⊥
Carries (Block x first) octets (Held c) = c.value ≡ octets
Carries (Block x first) octets Placed = ⊥
Carries Comma octets e = ⊥
Carries Silent octets e = ⊥

-- ok on a clean line, and ok or fixed with one burst
abbrev pub IsMarkedWell : Plan → ℕ → ℕ → Mark → Type 0
IsMarkedWell s h t mark = (Clean s h t → mark ≡ Good) × (mark ≢ Bad)

-- the same of an entry; a place of the alignment sequence has no mark
abbrev pub IsEntryWell : Plan → ℕ → ℕ → Entry → Type 0
IsEntryWell s h t Placed = Unit {0}
IsEntryWell s h t (Held c) = IsMarkedWell s h t c.mark

-- entry number n of a lane carries what was sent on its line in tick q
pub record IsEntryOf (kind : LaneKind) (s : Plan) (h lane t n q : ℕ) : Type 0 where
  pub entry : Entry
  pub found : slice_get (entries_at kind s lane t) n ≡ Some entry
  pub carries : Carries (at kind s q).order (slice_index (at kind s q).handed (wire_of s lane))
      entry
  pub well : IsEntryWell s h t entry

-- the alignment sequence breaks no rule
abbrev pub HasNoFault : IlasState → Type 0
HasNoFault (Fault x cause) = ⊥
HasNoFault Idle = Unit {0}
HasNoFault Going = Unit {0}
HasNoFault Done = Unit {0}

-- an armed lane hands on what was sent
pub record IsCarrying (kind : LaneKind) (s : Plan) (h lane t : ℕ) : Type 0 where
  pub kept : (report_at kind s lane t).lost ≡ false
  pub no_fault : HasNoFault (report_at kind s lane t).ilas
  pub entries : (x y q : ℕ) → HasStarted kind s h lane t x
      → is_inside s.link.timing (at kind s x).told.offset ≡ true → x ≤ y → y ≤ t
      → q + due_after s lane h ≡ y → IsEntryOf kind s h lane t (y - x) q

-- an armed lane is not lost and has no fault; where it started inside its window in tick x, its
-- entry of each tick y from x on carries what was sent on its line in tick y - a - wait
abbrev pub LaneData : LaneKind → Pattern → Plan → Type 0
LaneData kind pattern s = (h lane t : ℕ) → lane < s.link.params.l → InSession kind s h t
    → Lone kind pattern s h t → Undamaged s h t
    → is_armed kind s t ≡ true → IsCarrying kind s h lane t

-- the laws of a lane, of one plan's run; `sender` is a part of `lock` under Clean alone
pub record LaneLaws (kind : LaneKind) (pattern : Pattern) (s : Plan) : Type 0 where
  pub lock : LaneLock kind pattern s
  pub start : LaneStart kind pattern s
  pub carried : LaneData kind pattern s
  pub sender : LaneSender kind s
