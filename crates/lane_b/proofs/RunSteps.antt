-- A run of ticks of a receiver lane, tick by tick.
use Rattle.std.proofs.Common.{◌≡◌, ◌≢◌, ℕ, ◌+◌, ◌≤◌, List, [], ◌∷◌, ◌++◌, get_or, sym, ◌∙◌, ap, subst, inl, inr, arith}
use Rattle.std.proofs.lemmas.Bool.{cases_lt}
use Rattle.jesd_base.specs.Bits.{bits}
use Rattle.link_params.specs.declared.fields.Params.{Params}
use Rattle.link_params.specs.declared.fields.Timing.{Timing}
use Rattle.link_params.specs.declared.lane_report.LaneReport.{LaneReport}
use Rattle.link_params.specs.declared.orders.RxOrder.{RxOrder}
use Rattle.link_params.specs.Lanes.{Taken}
use Rattle.link_params.specs.Numbers.{period}
use Rattle.link_params.specs.Runs.{later, word_ticks}
use Rattle.link_params.proofs.RunLemmas.{word_ticks-more, word_ticks-none}
use Rattle.lane_b.specs.Received.{report_b}
use Rattle.lane_b.specs.kept.Receivers.{HasTaken, Receiver}

-- a receiver went on so from an earlier one
abbrev pub GoesSo : Receiver → Receiver → RxOrder → List ℕ → ℕ → Type 0
GoesSo old now order words i = (p : Params) (t : Timing) (lane : ℕ) (taken : List Taken)
    (gave : ℕ) → HasTaken old p t lane taken gave
    → HasTaken now p t lane (taken ++ word_ticks 10 order (period p) words i) gave

pub goes-none : (now : Receiver) (order : RxOrder) (words : List ℕ)
    → GoesSo now now order words 0
goes-none now order words = λ p t lane taken gave h.
    let P : List Taken → Type 0 = λ ts. HasTaken now p t lane ts gave in
    subst P (word_ticks-none taken 10 order (period p) words) h

pub goes-more : (old now new : Receiver) (order : RxOrder) (words : List ℕ) (i : ℕ)
    (o : RxOrder) → o ≡ later order (period old.params) i → GoesSo old now order words i
    → ((p : Params) (t : Timing) (lane : ℕ) (taken : List Taken) (gave : ℕ)
    → HasTaken now p t lane taken gave → HasTaken new p t lane
    (taken ++ (record { order = o; word = bits 10 (get_or words i 0) }) ∷ []) gave)
    → GoesSo old new order words (i + 1)
goes-more old now new order words i o is so_far goes_on = λ p t lane taken gave h.
    let P : List Taken → Type 0 = λ ts. HasTaken new p t lane ts gave in
    subst P (word_ticks-more taken 10 order (period p) words i o
    (is ∙ ap {B = RxOrder} (λ (q : Params). later order (period q) i) h.params))
    (goes_on p t lane (taken ++ word_ticks 10 order (period p) words i) gave
    (so_far p t lane taken gave h))

-- the report is the same in each tick so far
abbrev pub TellsSame : Receiver → RxOrder → List ℕ → ℕ → Type 0
TellsSame old order words i = (p : Params) (t : Timing) (lane : ℕ) (taken : List Taken)
    (gave : ℕ) → HasTaken old p t lane taken gave → (n : ℕ) → n ≤ i
    → report_b p t lane (taken ++ word_ticks 10 order (period p) words n) ≡ report_b p t lane taken

pub tells-none : (old : Receiver) (order : RxOrder) (words : List ℕ)
    → TellsSame old order words 0
tells-none old order words = λ p t lane taken gave h n low.
    let z : n ≡ 0 = omega arith in
    ap (λ (k : ℕ). report_b p t lane (taken ++ word_ticks 10 order (period p) words k)) z
    ∙ ap (report_b p t lane) (sym (word_ticks-none taken 10 order (period p) words))

-- what this receiver reports
abbrev pub Tells : Receiver → LaneReport → Type 0
Tells now report = (p : Params) (t : Timing) (lane : ℕ) (taken : List Taken) (gave : ℕ)
    → HasTaken now p t lane taken gave → report ≡ report_b p t lane taken

pub tells-more : (old new : Receiver) (order : RxOrder) (words : List ℕ) (i : ℕ)
    (before after : LaneReport) → TellsSame old order words i
    → GoesSo old new order words (i + 1) → Tells old before → Tells new after
    → before ≡ after → TellsSame old order words (i + 1)
tells-more old new order words i before after so_far goes tells_old tells_new same =
    λ p t lane taken gave h n upto. elim (cases_lt i n) [
      | inr earlier ↦ so_far p t lane taken gave h n earlier
      | inl here ↦
          let top : n ≡ i + 1 = omega arith in
          ap (λ (k : ℕ). report_b p t lane (taken ++ word_ticks 10 order (period p) words k)) top
          ∙ sym (tells_new p t lane (taken ++ word_ticks 10 order (period p) words (i + 1)) gave
          (goes p t lane taken gave h))
          ∙ sym same ∙ tells_old p t lane taken gave h
    ]

-- reports that differ stand for lists whose reports differ
pub tells-other : (old new : Receiver) (order : RxOrder) (words : List ℕ) (i : ℕ)
    (before after : LaneReport) → GoesSo old new order words i → Tells old before
    → Tells new after → before ≢ after
    → (p : Params) (t : Timing) (lane : ℕ) (taken : List Taken) (gave : ℕ)
    → HasTaken old p t lane taken gave
    → report_b p t lane (taken ++ word_ticks 10 order (period p) words i) ≢ report_b p t lane taken
tells-other old new order words i before after goes tells_old tells_new other =
    λ p t lane taken gave h same.
    other (tells_old p t lane taken gave h ∙ sym same
    ∙ sym (tells_new p t lane (taken ++ word_ticks 10 order (period p) words i) gave
    (goes p t lane taken gave h)))
