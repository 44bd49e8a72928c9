-- What the lanes give in a tick, and the frames that leave.
use Rattle.std.proofs.Common.{◌≡◌, ◌∙◌, ◌<◌, ◌≤◌, ◌+◌, ◌-◌, ◌*◌, ◌/◌, ◌%◌, ◌&&◌, nat_le, ℕ, Bool, true, false, List, [], ◌∷◌, ◌++◌, map, length, get_or, if◌then◌else◌, arith, sym, ap, ap₂, refl, length-append, append-nil}
use Rattle.std.proofs.lemmas.Bool.{le-leb, lt-leb}
use Rattle.std.proofs.lemmas.List.{get_or-map, length-map}
use Rattle.link_params.specs.declared.fields.Params.{Params}
use Rattle.link_params.specs.Lanes.{LaneKind}
use Rattle.link_params.specs.Numbers.{octets_per_tick}
use Rattle.sample_map.specs.Frames.{words_of}
use Rattle.bring_up.specs.declared.stage.Stage.{Stage}
use Rattle.bring_up.specs.declared.stage.Stage.TheVariants as stage
use Rattle.bring_up.specs.Decisions.{is_running}
use Rattle.scenario.specs.Plans.{Plan, numbers_from}
use Rattle.link_model.proofs.ColumnHistory.{column, columns-next}
use Rattle.link_model.proofs.DeliveryHistory.{delivered-columns}
use Rattle.link_model.proofs.KindFacts.{lead}
use Rattle.link_model.proofs.LaneHistory.{HasHunt, lane-run-next}
use Rattle.link_model.proofs.NumberLists.{get_or-numbers, length-numbers, map-numbers}
use Rattle.link_model.proofs.WholeFrames.{delivered-by-place}
use Rattle.link_model.specs.kept.Before.{Columns, delivered_at, octet_columns}
use Rattle.link_model.specs.Gives.{gives_in}
use Rattle.link_model.specs.Hunts.{session}
use Rattle.link_model.specs.Kinds.{kind_of, moment_of}
use Rattle.link_model.specs.kept.LaneRuns.{LaneRun, lane_run, lane_stepped}
use Rattle.link_model.specs.Moments.{Delivered, History}
use Rattle.link_run.proofs.RunFacts.{IsRunOf}
use Rattle.link_run.specs.kept.Gathered.{FramesAre, Gathering, HasGathered, Whole, delivered_of, no_frame, whole_of}
use Rattle.link_run.specs.kept.Collected.{columns_of}

and-false : (a : Bool) → (a && false) ≡ false
and-false true = refl
and-false false = refl

pub not-running : (k : Stage) → (k ≡ stage.Run → ⊥) → is_running k ≡ false
not-running stage.Hunt apart = refl
not-running stage.Wait apart = refl
not-running stage.Run apart = absurd (apart refl)

-- the history with the tick
abbrev pub with_tick : Plan → History → History
with_tick s h = h ++ moment_of s h ∷ []

-- the columns of the session to which the tick belongs
abbrev pub columns_left : Plan → History → Columns
columns_left s h = if (moment_of s h).told.hunt then [] else columns_of s h

-- ---- a tick in which the link is not released

-- each lane keeps its entries
pub lane-still : (s : Plan) (h : History) (lane : ℕ) → HasHunt h
    → is_running (moment_of s h).stage ≡ false
    → lane_stepped (kind_of s.link.params) s h lane ≡ lane_run s (with_tick s h) lane
lane-still s h lane begun still =
    let k : LaneKind = kind_of s.link.params in
    let same : gives_in (session s h) + (if is_running (moment_of s h).stage then 1 else 0)
    ≡ gives_in (session s h) = rw still (omega arith) in
    sym (lane-run-next k s h lane begun
    ∙ ap (λ (n : ℕ). let x : LaneRun = record (lane_stepped k s h lane) { gave = n } in x) same)

-- the columns with those that come where the lanes run and the alignment sequence is over
abbrev with_columns : Plan → History → Bool → Columns
with_columns s h b = columns_left s h
    ++ (if b then octet_columns s.link.params (column (kind_of s.link.params) s h) else [])

columns-with : (s : Plan) (h : History) → IsRunOf s h
    → columns_of s (with_tick s h)
    ≡ with_columns s h (is_running (moment_of s h).stage
    && nat_le (lead s.link.params) (gives_in (session s h)))
columns-with s h r = columns-next (kind_of s.link.params) s h r.facts r.legal r.lanes r.begun r.kept

pub columns-still : (s : Plan) (h : History) → IsRunOf s h
    → is_running (moment_of s h).stage ≡ false
    → columns_of s (with_tick s h) ≡ columns_left s h
columns-still s h r still =
    columns-with s h r
    ∙ ap (λ (b : Bool). with_columns s h
    (b && nat_le (lead s.link.params) (gives_in (session s h)))) still
    ∙ append-nil (columns_left s h)

-- ---- a tick in which it is

-- each lane gives one
pub lane-gave : (s : Plan) (h : History) (lane : ℕ) → HasHunt h
    → (moment_of s h).stage ≡ stage.Run
    → record (lane_stepped (kind_of s.link.params) s h lane) {
      gave = (lane_stepped (kind_of s.link.params) s h lane).gave + 1;
    } ≡ lane_run s (with_tick s h) lane
lane-gave s h lane begun runs =
    let k : LaneKind = kind_of s.link.params in
    let same : gives_in (session s h) + (if is_running (moment_of s h).stage then 1 else 0)
    ≡ gives_in (session s h) + 1 = rw runs refl in
    sym (lane-run-next k s h lane begun
    ∙ ap (λ (n : ℕ). let x : LaneRun = record (lane_stepped k s h lane) { gave = n } in x) same)

pub columns-early : (s : Plan) (h : History) → IsRunOf s h
    → gives_in (session s h) < lead s.link.params
    → columns_of s (with_tick s h) ≡ columns_left s h
columns-early s h r early =
    columns-with s h r
    ∙ ap (with_columns s h) (ap (λ (b : Bool). is_running (moment_of s h).stage && b)
    (lt-leb (lead s.link.params) (gives_in (session s h)) early)
    ∙ and-false (is_running (moment_of s h).stage))
    ∙ append-nil (columns_left s h)

pub columns-late : (s : Plan) (h : History) → IsRunOf s h → (moment_of s h).stage ≡ stage.Run
    → lead s.link.params ≤ gives_in (session s h)
    → columns_of s (with_tick s h)
    ≡ columns_left s h ++ octet_columns s.link.params (column (kind_of s.link.params) s h)
columns-late s h r runs late =
    columns-with s h r
    ∙ ap₂ (λ (a b : Bool). with_columns s h (a && b))
    (ap is_running runs) (le-leb (lead s.link.params) (gives_in (session s h)) late)

-- ---- the frames

-- the frames of these columns that were not whole with the first `before` of them leave
frames-leave : (p : Params) (end before : ℕ) (columns : Columns) (frames : List Whole) (begun : ℕ)
    → 0 < p.f → before ≤ length columns → FramesAre frames p before columns
    → begun ≡ length columns % p.f
    → delivered_at p end before columns ≡ delivered_of p end frames begun
frames-leave p end before columns frames begun some below are count =
    let from : ℕ = before / p.f in
    let n : ℕ = length columns / p.f - from in
    let numbers : List ℕ = numbers_from from n in
    let long : length frames ≡ n = ap length are ∙ length-map numbers (whole_of p columns)
    ∙ length-numbers n from in
    let listed = length-numbers n from in
    let frame : (i : ℕ) → i < n → get_or frames i no_frame ≡ whole_of p columns (from + i) =
    λ i inside. ap (λ (xs : List Whole). get_or xs i no_frame) are
    ∙ get_or-map (whole_of p columns) numbers i 0 no_frame (omega arith)
    ∙ ap (whole_of p columns) (get_or-numbers n i from 0 inside) in
    let left : ℕ → ℕ → ℕ → Whole → Delivered = λ i rest many w. record {
      left = end + i * p.f - (rest + many * p.f);
      mark = w.mark;
      words = words_of p w.octets;
    } in
    delivered-by-place p end before columns some below
    ∙ map-numbers (λ i. left i (length columns % p.f) n (whole_of p columns (from + i)))
    (λ i. left i begun (length frames) (get_or frames i no_frame)) n 0 (λ i inside.
    ap₂ (λ (rest many : ℕ). left i rest many (whole_of p columns (from + i))) (sym count) (sym long)
    ∙ ap (left i begun (length frames)) (sym (frame i (omega arith))))
    ∙ ap (λ (m : ℕ). map (λ i. left i begun (length frames) (get_or frames i no_frame))
    (numbers_from 0 m)) (sym long)

-- those of a tick
pub delivered-frames : (s : Plan) (h : History) (now : Gathering) (more : Columns) → IsRunOf s h
    → columns_of s (with_tick s h) ≡ columns_left s h ++ more
    → FramesAre now.frames s.link.params (length (columns_left s h)) (columns_left s h ++ more)
    → HasGathered now s.link.params (columns_left s h ++ more)
    → (moment_of s h).delivered ≡ delivered_of s.link.params
    (octets_per_tick s.link.params * (length h + 1)) now.frames now.at
delivered-frames s h now more r is frames gathered =
    let p = s.link.params in
    let end : ℕ = octets_per_tick p * (length h + 1) in
    let before : ℕ = length (columns_left s h) in
    let long = length-append (columns_left s h) more in
    delivered-columns (kind_of p) s h r.facts r.legal r.lanes r.octets r.begun r.kept
    ∙ ap (delivered_at p end before) is
    ∙ frames-leave p end before (columns_left s h ++ more) now.frames now.at r.octets (omega arith)
    frames gathered.count

-- none
pub delivered-nothing : (s : Plan) (h : History) (begun : ℕ) → (moment_of s h).delivered ≡ []
    → (moment_of s h).delivered ≡ delivered_of s.link.params
    (octets_per_tick s.link.params * (length h + 1)) [] begun
unfolding numbers_from
delivered-nothing s h begun none = none
