-- The two ends of a lane of either kind, by the mode of the link.
use Rattle.std.proofs.Common.{◌≡◌, ℕ, ◌-◌, ◌<◌, Bool, true, false, List, [], ◌∷◌, ◌++◌, map, length, Option, refl, sym, ap, ◌∙◌, arith, subst}
use Rattle.std.proofs.lemmas.List.{length-drop, length-map, map-append}
use Rattle.jesd_base.specs.Bits.{bits}
use Rattle.link_params.specs.declared.fields.Params.{Params}
use Rattle.link_params.specs.declared.fields.Timing.{Timing}
use Rattle.link_params.specs.declared.fields.Mode.{Mode}
use Rattle.link_params.specs.declared.fields.Mode.TheVariants.{B}
use Rattle.link_params.specs.declared.orders.TxOrder.{TxOrder}
use Rattle.link_params.specs.declared.orders.TxOrder.TheVariants.{Comma, Ilas, Data, Silent, Block}
use Rattle.link_params.specs.Lanes.{Handed, Held, Taken}
use Rattle.link_params.specs.Laws.{is_b}
use Rattle.link_params.specs.Numbers.{width}
use Rattle.lane_b.specs.Received.{entries_b, report_b}
use Rattle.lane_b.specs.kept.Senders.{Follows as FollowsB, place_after_order as next_place_b}
use Rattle.lane_b.specs.Sent.{sent_b, sent_words}
use Rattle.lane_c.specs.Received.{entries_c, report_c}
use Rattle.lane_c.specs.kept.Senders.{Follows as FollowsC, place_after_order as next_place_c}
use Rattle.lane_c.specs.Sent.{sent_c}
use Rattle.link_model.specs.Kinds.{kind_of}
use Rattle.lane_threads.specs.declared.tx_lane.TxLane.{TxLane}
use Rattle.lane_threads.specs.declared.tx_lane.TxLane.TheVariants as tx
use Rattle.lane_threads.specs.declared.rx_lane.RxLane.{RxLane}
use Rattle.lane_threads.specs.declared.rx_lane.RxLane.TheVariants as rx
use Rattle.lane_threads.specs.kept.LaneEnds.{Follows, FollowsOn, HasSent, HasTaken, IsSmall, MayFollow, buffer_in, next_after, next_in, params_in}

-- ---- the mode of a kind

pub mode-b : (m : Mode) → m ≡ B → is_b m ≡ true
mode-b m e = ap is_b e

pub width-b : (p : Params) → is_b p.mode ≡ true → width p ≡ 10
width-b p e = rw e refl

pub width-c : (p : Params) → is_b p.mode ≡ false → width p ≡ 66
width-c p e = rw e refl

-- ---- what each kind is

pub sends-b : (p : Params) (lane : ℕ) (handed : List Handed) → is_b p.mode ≡ true
    → (kind_of p).sends p lane handed ≡ sent_b p lane handed
sends-b p lane handed e = rw e refl

pub sends-c : (p : Params) (lane : ℕ) (handed : List Handed) → is_b p.mode ≡ false
    → (kind_of p).sends p lane handed ≡ sent_c p lane handed
sends-c p lane handed e = rw e refl

pub report-of-b : (p : Params) (t : Timing) (lane : ℕ) (taken : List Taken) → is_b p.mode ≡ true
    → (kind_of p).report p t lane taken ≡ report_b p t lane taken
report-of-b p t lane taken e = rw e refl

pub report-of-c : (p : Params) (t : Timing) (lane : ℕ) (taken : List Taken) → is_b p.mode ≡ false
    → (kind_of p).report p t lane taken ≡ report_c p t lane taken
report-of-c p t lane taken e = rw e refl

pub entries-of-b : (p : Params) (t : Timing) (lane : ℕ) (taken : List Taken) → is_b p.mode ≡ true
    → (kind_of p).entries p t lane taken ≡ entries_b p t lane taken
entries-of-b p t lane taken e = rw e refl

pub entries-of-c : (p : Params) (t : Timing) (lane : ℕ) (taken : List Taken) → is_b p.mode ≡ false
    → (kind_of p).entries p t lane taken ≡ entries_c p t lane taken
entries-of-c p t lane taken e = rw e refl

-- a buffer holds the entries that were not given
pub buffer-count : (x : RxLane) (p : Params) (t : Timing) (lane : ℕ) (taken : List Taken) (gave : ℕ)
    → HasTaken x p t lane taken gave
    → length (buffer_in x).cells ≡ length ((kind_of p).entries p t lane taken) - gave
buffer-count (rx.B x) p t lane taken gave h = rw h.0 h.1.holds.count
buffer-count (rx.C x) p t lane taken gave h =
    let held = length-map x.buffer.cells Held in
    let left = length-drop gave (entries_c p t lane taken) in
    let wait = ap length h.1.holds.wait in
    rw h.0 (omega arith)

-- ---- one tick more

-- the bits of an 8b/10b lane, by its words
pub words-more : (p : Params) (lane w : ℕ) (before after : List Handed) → is_b p.mode ≡ true
    → sent_words p lane after ≡ sent_words p lane before ++ w ∷ []
    → (kind_of p).sends p lane after
    ≡ (kind_of p).sends p lane before ++ bits (width p) w ∷ []
words-more p lane w before after b e =
    sends-b p lane after b ∙ ap (map (bits 10)) e
    ∙ map-append (bits 10) (sent_words p lane before) (w ∷ [])
    ∙ sym (ap (λ (n : ℕ). map (bits 10) (sent_words p lane before) ++ bits n w ∷ []) (width-b p b))
    ∙ ap (λ (l : List (List Bool)). l ++ bits (width p) w ∷ []) (sym (sends-b p lane before b))

pub blocks-more : (p : Params) (lane w : ℕ) (before after : List Handed) → is_b p.mode ≡ false
    → sent_c p lane after ≡ sent_c p lane before ++ bits 66 w ∷ []
    → (kind_of p).sends p lane after
    ≡ (kind_of p).sends p lane before ++ bits (width p) w ∷ []
blocks-more p lane w before after c e =
    sends-c p lane after c ∙ e
    ∙ sym (ap (λ (n : ℕ). sent_c p lane before ++ bits n w ∷ []) (width-c p c))
    ∙ ap (λ (l : List (List Bool)). l ++ bits (width p) w ∷ []) (sym (sends-c p lane before c))

-- the place of the data that comes next
pub next-b : (p : Params) (next : Option ℕ) (order : TxOrder) → FollowsB p next order
    → next_place_b p order ≡ next_after p order
next-b p next Comma f = refl
next-b p next (Ilas x) f = refl
next-b p next (Data x first) f = refl
next-b p next Silent f = refl
next-b p next (Block x first) f = absurd f

pub next-c : (p : Params) (next : Option ℕ) (order : TxOrder) → FollowsC next order
    → next_place_c p order ≡ next_after p order
next-c p next Comma f = refl
next-c p next (Ilas x) f = refl
next-c p next (Data x first) f = absurd f
next-c p next Silent f = refl
next-c p next (Block x first) f = refl

-- ---- what a transmitter end may be given

-- a lane may be given an order that follows
pub may-follow : (x : TxLane) (p : Params) (lane : ℕ) (handed : List Handed) (next : Option ℕ)
    (order : TxOrder) → HasSent x p lane handed → params_in x ≡ p → next_in x ≡ next
    → Follows p next order → MayFollow x order
may-follow (tx.B x) p lane handed next order sent params at follows =
    let on : FollowsOn true p next order =
    subst (λ (b : Bool). FollowsOn b p next order) sent.0 follows in
    rw (params, at) on
may-follow (tx.C x) p lane handed next order sent params at follows =
    let on : FollowsOn false p next order =
    subst (λ (b : Bool). FollowsOn b p next order) sent.0 follows in
    rw at on

-- a number that a lane can be handed
pub is-small : (x : TxLane) (p : Params) (lane v : ℕ) (handed : List Handed) → HasSent x p lane handed
    → (is_b p.mode ≡ true → v < 256) → IsSmall x v
is-small (tx.B x) p lane v handed sent small = small sent.0
is-small (tx.C x) p lane v handed sent small = tt
