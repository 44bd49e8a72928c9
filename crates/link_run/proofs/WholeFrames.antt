-- The frames of a tick that has whole ones, all at once.
use Rattle.std.proofs.Common.{◌≡◌, ℕ, zero, suc, ◌+◌, ◌-◌, ◌*◌, ◌/◌, ◌%◌, ◌^◌, ◌<◌, ◌≤◌, List, [], ◌∷◌, All, take, drop, fold, replicate, length, get_or, slice_index, slice_set, Some, None, refl, sym, ap, ap₂, subst, ◌∙◌, arith}
use Rattle.std.proofs.Math.Nat.{mod-lt, mul-le-mul_left, mul-le-mul_right, suc-mul}
use Rattle.std.proofs.lemmas.List.{get_or-drop, get_or-take, length-drop, length-replicate, length-take-le, take_all}
use Rattle.std.proofs.lemmas.Nat.{div-add-mod', div_below, div-mul-add}
use Rattle.link_params.specs.declared.fields.Params.{Params}
use Rattle.link_params.specs.Laws.{broken_law}
use Rattle.link_params.specs.Numbers.{octets_per_tick}
use Rattle.link_params.proofs.LawFacts.{legal_sizes}
use Rattle.sample_map.specs.Layout.{IsFrame}
use Rattle.sample_map.specs.Frames.{OneFrame, frame_of}
use Rattle.scenario.specs.declared.scenario_type.Scenario.{Scenario}
use Rattle.scenario.specs.Plans.{Plan, plan_of, source_frame}
use Rattle.link_run.specs.kept.Handed.{Hands, with_frames}
use Rattle.link_run.specs.kept.Seen.{Fed, HasFed}
use Rattle.link_run.proofs.FeedLemmas.{fits, frame_is}
use Rattle.link_run.proofs.FrameOctets.{behind, frame-within, length-with_frames, with_frames-one}
use Rattle.link_run.proofs.Handing.{hands-none, hands-run, whole-place}

-- ---- how many

pub count-is : (long n each : ℕ) → 0 < each → long ≡ n * each → long / each ≡ n
count-is long n each some is =
    let none : n * each ≡ n * each + 0 = omega arith in
    ap (λ (k : ℕ). k / each) (is ∙ none) ∙ div-mul-add n each 0 some

pub counted : (long n each : ℕ) → 0 < each → long ≡ n * each → long ≡ long / each * each
counted long n each some is = is ∙ sym (ap (λ (k : ℕ). k * each) (count-is long n each some is))

positive : (a b : ℕ) → 1 ≤ a → 1 ≤ b → 0 < a * b
positive a b some other =
    let most : 1 * b ≤ a * b = mul-le-mul_right b some in
    omega arith

pub some-words : (p : Params) → broken_law p ≡ None → 0 < p.m * p.s
some-words p legal =
    let sizes = legal_sizes p legal in
    positive p.m p.s sizes.m_low sizes.s_low

pub some-octets : (p : Params) → broken_law p ≡ None → 0 < p.l * p.f
some-octets p legal =
    let sizes = legal_sizes p legal in
    positive p.l p.f sizes.l_low sizes.f_low

pub few-frames : (frames size tick : ℕ) → 1 ≤ size → frames * size ≡ tick → frames ≤ tick
few-frames frames size tick some is =
    let least : frames * 1 ≤ frames * size = mul-le-mul_left frames some in
    omega arith

pub some-frames : (f g : Fed) → f ≡ g → 0 < g.frames → 0 < f.frames
some-frames f g same some = subst (λ (h : Fed). 0 < h.frames) (sym same) some

-- ---- each frame of them

-- what belongs to frame i, with so many items for each frame
abbrev pub part : List ℕ → ℕ → ℕ → List ℕ
part xs each i = take each (drop (i * each) xs)

length-part : (xs : List ℕ) (each n i : ℕ) → length xs ≡ n * each → i < n
    → length (part xs each i) ≡ each
length-part xs each n i is more =
    let within = frame-within i n each more in
    let left = length-drop (i * each) xs in
    length-take-le each (drop (i * each) xs) (omega arith)

at-part : (xs : List ℕ) (each r : ℕ) → 0 < each
    → get_or (part xs each (r / each)) (r % each) 0 ≡ get_or xs r 0
at-part xs each r some =
    get_or-take each (drop (r / each * each) xs) (r % each) 0 (mod-lt r some)
    ∙ get_or-drop (r / each * each) xs (r % each) 0
    ∙ ap (λ (k : ℕ). get_or xs k 0) (div-add-mod' r each)

-- these are the words of the frames
abbrev pub AreFrames : Scenario → ℕ → ℕ → ℕ → List ℕ → Type 0
AreFrames s frames begun each words = (plan : Plan) → plan_of s ≡ Some plan → (i : ℕ) → i < frames
    → part words each i ≡ source_frame plan (begun + i)

pub are-frames : (s : Scenario) (p : Params) (frames begun count from : ℕ) (words new : List ℕ)
    → s.shape ≡ p → count ≡ frames → from ≡ begun → words ≡ new
    → AreFrames s count from (s.shape.m * s.shape.s) new
    → AreFrames s frames begun (p.m * p.s) words
are-frames s p frames begun count from words new same counts starts is each =
    subst (λ (k : ℕ). AreFrames s k begun (p.m * p.s) words) counts
    (subst (λ (n : ℕ). AreFrames s count n (p.m * p.s) words) starts
    (subst (λ (q : Params). AreFrames s count from (q.m * q.s) words) same
    (subst (λ (l : List ℕ). AreFrames s count from (s.shape.m * s.shape.s) l) (sym is) each)))

pub words-below : (s : Scenario) (plan : Plan) (p : Params) (frames begun : ℕ) (words : List ℕ)
    → plan_of s ≡ Some plan → s.shape ≡ p → 0 < p.m * p.s
    → length words ≡ frames * (p.m * p.s)
    → AreFrames s frames begun (p.m * p.s) words
    → (r : ℕ) → r < length words → slice_index words r < 2 ^ (p.n + p.cs)
words-below s plan p frames begun words is same some long each r inside =
    let size : ℕ = p.m * p.s in
    let below : r < frames * size = omega arith in
    subst (λ (w : ℕ). w < 2 ^ (p.n + p.cs)) (at-part words size r some)
    (fits s plan p (begun + r / size) (r % size) (part words size (r / size)) is same
    (each plan is (r / size) (div_below r size frames some below)))

octets-of : (s : Scenario) (p : Params) (frames begun : ℕ) (words octets : List ℕ) → OneFrame
    → broken_law s.shape ≡ None → s.shape ≡ p → length words ≡ frames * (p.m * p.s)
    → AreFrames s frames begun (p.m * p.s) words
    → ((i : ℕ) → i < frames → IsFrame p (part words (p.m * p.s) i) (part octets (p.l * p.f) i))
    → (plan : Plan) → plan_of s ≡ Some plan → (i : ℕ) → i < frames
    → part octets (p.l * p.f) i ≡ frame_of plan.link.params (source_frame plan (begun + i))
octets-of s p frames begun words octets one legal same long each laid plan is i more =
    frame_is s plan p (begun + i) (part words (p.m * p.s) i) (part octets (p.l * p.f) i) one is
    same legal (length-part words (p.m * p.s) frames i long more) (each plan is i more)
    (laid i more)

-- the words of the tick's frames were written, and their octets
pub tick-frames : (s : Scenario) (p : Params) (frames begun from : ℕ)
    (old_words words new octets : List ℕ) → OneFrame → broken_law s.shape ≡ None → s.shape ≡ p
    → length old_words ≡ frames * (p.m * p.s) → length new ≡ length old_words → from ≡ begun
    → words ≡ new
    → AreFrames s (length old_words / (s.shape.m * s.shape.s)) from (s.shape.m * s.shape.s) new
    → ((i : ℕ) → i < length words / (p.m * p.s)
    → IsFrame p (part words (p.m * p.s) i) (part octets (p.l * p.f) i))
    → (plan : Plan) → plan_of s ≡ Some plan → (i : ℕ) → i < frames
    → part octets (p.l * p.f) i ≡ frame_of plan.link.params (source_frame plan (begun + i))
tick-frames s p frames begun from old_words words new octets one legal same long kept starts is
    each laid =
    let q = s.shape in
    let before : length old_words ≡ frames * (q.m * q.s) =
    long ∙ ap (λ (r : Params). frames * (r.m * r.s)) (sym same) in
    let count = count-is (length old_words) frames (q.m * q.s) (some-words q legal) before in
    let now : length words ≡ frames * (p.m * p.s) = ap length is ∙ kept ∙ long in
    let some = some-words p (ap broken_law (sym same) ∙ legal) in
    let laid_count = count-is (length words) frames (p.m * p.s) some now in
    octets-of s p frames begun words octets one legal same now
    (are-frames s p frames begun (length old_words / (q.m * q.s)) from words new same count starts
    is each)
    (λ i more. laid i (subst (λ (k : ℕ). i < k) (sym laid_count) more))

-- ---- what the lanes are handed

-- a feed that has one frame at a time
abbrev at_frame : Params → ℕ → List ℕ → Fed
at_frame p n octets = record { params = p; begun = n; frames = 0; octets = octets }

-- the octets of the frame that began last, k frames of the tick after the first octets
abbrev last : List ℕ → List ℕ → ℕ → ℕ → List ℕ
last first octets all zero = first
last first octets all (suc k) = part octets all k

hands-to : (scenario : Scenario) (p : Params) (n x frames : ℕ) (first octets : List ℕ)
    → ((s : Plan) → plan_of scenario ≡ Some s → s.link.params ≡ p) → 1 ≤ p.f
    → frames * p.f ≡ octets_per_tick p
    → ((s : Plan) → plan_of scenario ≡ Some s → (i : ℕ) → i < frames
    → part octets (p.l * p.f) i ≡ frame_of s.link.params (source_frame s (n + i)))
    → (k : ℕ) → k ≤ frames
    → Hands scenario (at_frame p n first) (at_frame p (n + k) (last first octets (p.l * p.f) k)) x
    (k * p.f) (with_frames octets p.f (p.l * p.f) k (replicate p.l 0))
hands-to scenario p n x frames first octets shape some whole each zero few =
    let none : 0 ≡ 0 * p.f = omega arith in
    let same : n ≡ n + 0 = omega arith in
    subst (λ j. Hands scenario (at_frame p n first) (at_frame p j first) x (0 * p.f)
    (replicate p.l 0)) same
    (subst (λ j. Hands scenario (at_frame p n first) (at_frame p n first) x j (replicate p.l 0))
    none (hands-none scenario (at_frame p n first) x p.l shape refl))
hands-to scenario p n x frames first octets shape some whole each (suc k) few =
    let all : ℕ = p.l * p.f in
    let before = hands-to scenario p n x frames first octets shape some whole each k (omega arith)
    in
    subst (λ j. Hands scenario (at_frame p n first) (at_frame p (n + suc k) (part octets all k)) x j
    (with_frames octets p.f all (suc k) (replicate p.l 0))) (sym (suc-mul k p.f))
    (hands-run scenario (at_frame p n first) (at_frame p (n + k) (last first octets all k))
    (at_frame p (n + suc k) (part octets all k)) x (k * p.f) 0 p.f
    (with_frames octets p.f all k (replicate p.l 0))
    (with_frames octets p.f all (suc k) (replicate p.l 0)) before shape refl
    (whole-place frames p.f (octets_per_tick p) x k whole) some (omega arith) refl refl
    (omega arith) refl (λ s m is was.
    let count = was.count in
    let now : n + k ≡ m + 1 - 1 = omega arith in
    record {
      same_params = was.same_params;
      count = omega arith;
      frame = λ none. each s is k (omega arith)
          ∙ ap (λ (i : ℕ). frame_of s.link.params (source_frame s i)) now;
    }))

-- each frame of a tick has its octets
abbrev pub HasFrames : Scenario → Fed → List ℕ → Type 0
HasFrames scenario f octets = (s : Plan) → plan_of scenario ≡ Some s → (i : ℕ) → i < f.frames
    → part octets (f.params.l * f.params.f) i
    ≡ frame_of s.link.params (source_frame s (f.begun + i))

pub whole-hands : (scenario : Scenario) (old now : Fed) (x : ℕ) (octets handed : List ℕ)
    → ((s : Plan) → plan_of scenario ≡ Some s → s.link.params ≡ old.params) → 1 ≤ old.params.f
    → 0 < old.frames → old.frames * old.params.f ≡ octets_per_tick old.params
    → now.params ≡ old.params → now.frames ≡ old.frames → now.begun ≡ old.begun + old.frames
    → HasFrames scenario old octets
    → handed ≡ with_frames octets old.params.f (old.params.l * old.params.f) old.frames
    (replicate old.params.l 0)
    → Hands scenario old now x (octets_per_tick old.params) handed
whole-hands scenario old now x octets handed shape some more whole same same_frames begun each is =
    let p = old.params in
    let n : ℕ = old.begun in
    let few = few-frames old.frames p.f (octets_per_tick p) some whole in
    let first : Plan → List ℕ = λ s. frame_of s.link.params (source_frame s (n - 1)) in
    let run : (s : Plan) → Hands scenario (at_frame p n (first s))
    (at_frame p (n + old.frames) (last (first s) octets (p.l * p.f) old.frames)) x
    (octets_per_tick p) (with_frames octets p.f (p.l * p.f) old.frames (replicate p.l 0)) =
    λ s. subst (λ j. Hands scenario (at_frame p n (first s))
    (at_frame p (n + old.frames) (last (first s) octets (p.l * p.f) old.frames)) x j
    (with_frames octets p.f (p.l * p.f) old.frames (replicate p.l 0))) whole
    (hands-to scenario p n x old.frames (first s) octets shape some whole each old.frames
    (omega arith)) in
    let one : (s : Plan) (k : ℕ) → HasFed old s k → HasFed (at_frame p n (first s)) s k =
    λ s k was. record {
      same_params = was.same_params;
      count = was.count;
      frame = λ none. ap (λ (i : ℕ). frame_of s.link.params (source_frame s (i - 1))) was.count;
    } in
    record {
      params = same;
      frames = same_frames;
      count = omega arith;
      lanes = ap length is
          ∙ length-with_frames octets p.f (p.l * p.f) old.frames (replicate p.l 0)
          ∙ length-replicate p.l 0;
      fed = λ s k plan was. record {
        same_params = same ∙ was.same_params;
        count = begun ∙ ((run s).fed s k plan (one s k was)).count;
        frame = λ none. absurd (omega arith);
      };
      handed_is = λ s k plan was. is ∙ (run s).handed_is s k plan (one s k was);
    }

-- one lane alone: all octets are its own
pub one-lane : (octets : List ℕ) (l f frames v : ℕ) (handed : List ℕ) → handed ≡ replicate l 0
    → l ≡ 1 → length octets ≡ frames * (l * f) → v ≡ fold behind 0 octets
    → slice_set handed 0 v ≡ with_frames octets f (l * f) frames (replicate l 0)
one-lane octets l f frames v handed none one long is =
    let same : l * f ≡ f = ap (λ (k : ℕ). k * f) one ∙ (let e : 1 * f ≡ f = omega arith in e) in
    let all : length octets ≡ frames * f = long ∙ ap (λ (k : ℕ). frames * k) same in
    let most : length octets ≤ frames * f = omega arith in
    let least : frames * f ≤ length octets = omega arith in
    let zeros : replicate l 0 ≡ 0 ∷ [] = ap (λ (k : ℕ). replicate k 0) one in
    ap (λ (h : List ℕ). slice_set h 0 v) (none ∙ zeros)
    ∙ ap (λ (w : ℕ). w ∷ []) (is
    ∙ ap (fold behind 0) (sym (take_all (frames * f) octets most)))
    ∙ sym (ap₂ (λ (k : ℕ) (h : List ℕ). with_frames octets f k frames h) same zeros
    ∙ with_frames-one octets f frames 0 least)

pub small-set : (handed : List ℕ) (v m : ℕ) → length handed ≡ 1 → v < m
    → All (λ w. w < m) (slice_set handed 0 v)
small-set (x ∷ []) v m one below zero d inside = below
small-set (x ∷ []) v m one below (suc k) d inside = absurd (omega arith)
small-set [] v m one below k d inside = absurd (omega arith)
small-set (x ∷ y ∷ xs) v m one below k d inside = absurd (omega arith)

-- several lanes
pub several-lanes : (octets read handed now : List ℕ) (l f frames size all n : ℕ) → read ≡ octets
    → size ≡ f → all ≡ l * f → n ≡ frames → handed ≡ replicate l 0
    → now ≡ with_frames read size all n handed
    → now ≡ with_frames octets f (l * f) frames (replicate l 0)
several-lanes octets read handed now l f frames size all n same size_is all_is count none is = is
    ∙ ap (λ (o : List ℕ). with_frames o size all n handed) same
    ∙ ap (λ (k : ℕ). with_frames octets k all n handed) size_is
    ∙ ap (λ (k : ℕ). with_frames octets f k n handed) all_is
    ∙ ap (λ (k : ℕ). with_frames octets f (l * f) k handed) count
    ∙ ap (with_frames octets f (l * f) frames) none

-- where there is one lane, its octets are those of a tick
pub one-tick : (l f frames tick : ℕ) → l ≡ 1 → frames * f ≡ tick → frames * (l * f) ≡ tick
one-tick l f frames tick one is =
    let same : 1 * f ≡ f = omega arith in
    ap (λ (k : ℕ). frames * (k * f)) one ∙ ap (λ (k : ℕ). frames * k) same ∙ is
