-- The words of source frames, and what a feed keeps of them.
use Rattle.std.proofs.Common.{◌≡◌, ℕ, zero, suc, ◌+◌, ◌*◌, ◌/◌, ◌%◌, ◌^◌, ◌<◌, true, List, [], ◌∷◌, ◌++◌, length, map, take, drop, get_or, Option, Some, None, inl, inr, refl, sym, ap, ◌∙◌}
use Rattle.std.specs.Prelude.{All, slice_index, unwrap_or}
use Rattle.std.specs.Option.{ForSome, is_some}
use Rattle.std.proofs.Math.Nat.{mod-lt}
use Rattle.std.proofs.Math.Seq.{take-append_seam}
use Rattle.std.proofs.lemmas.Bool.{cases_lt}
use Rattle.std.proofs.lemmas.List.{get_or_past}
use Rattle.std.proofs.lemmas.List.Elements.{All-get_or}
use Rattle.std.proofs.lemmas.Nat.{pow_pos}
use Rattle.link_params.specs.declared.fields.Params.{Params}
use Rattle.link_params.specs.Links.{Link}
use Rattle.link_params.specs.Laws.{broken_law}
use Rattle.sample_map.specs.Layout.{IsFrame, FitFrame}
use Rattle.sample_map.specs.Frames.{OneFrame, frame_of}
use Rattle.scenario.specs.declared.input.Input.{Input}
use Rattle.scenario.specs.declared.input.Input.TheVariants as input
use Rattle.scenario.specs.declared.scenario_type.Scenario.{Scenario}
use Rattle.scenario.specs.Inputs.{input_words}
use Rattle.scenario.specs.Limits.{is_order}
use Rattle.link_run.proofs.PlanFacts.{plan-facts}
use Rattle.scenario.specs.Plans.{Plan, source_word, source_in, source_frame, numbers_from, plan_of, plan_with}
use Rattle.link_run.specs.kept.Seen.{HasFeedSizes, HasRoom}

below_in : (xs : List ℕ) (r m : ℕ) → 0 < m → All (λ w. w < m) xs → get_or xs r 0 < m
below_in xs r m some all = elim (cases_lt r (length xs)) [
  | inl inside ↦ All-get_or (λ w. w < m) xs r 0 inside all
  | inr past ↦ rw (get_or_past xs r 0 past) some
]

below_in_map : (xs : List ℕ) (r m : ℕ) (f : ℕ → ℕ) → 0 < m → ((k : ℕ) → f k < m)
    → get_or (map f xs) r 0 < m
below_in_map [] r m f some each = some
below_in_map (x ∷ xs) zero m f some each = each x
below_in_map (x ∷ xs) (suc r) m f some each = below_in_map xs r m f some each

word_below : (i : Input) (p : Params) (n k : ℕ) → All (λ w. w < 2 ^ (p.n + p.cs)) (input_words i)
    → source_word p (source_in i) n k < 2 ^ (p.n + p.cs)
word_below (input.Ramp start step) p n k fit = mod-lt (start + step * (n * (p.m * p.s) + k))
    (pow_pos (p.n + p.cs))
word_below (input.Frames words) p n k fit =
    below_in words.items (n % (length words.items / (p.m * p.s)) * (p.m * p.s) + k)
    (2 ^ (p.n + p.cs)) (pow_pos (p.n + p.cs)) fit

-- ---- the plan of a scenario

same_source : (link : Option Link) (s : Scenario) (plan : Plan) → plan_with link s ≡ Some plan
    → plan.source ≡ source_in s.input
same_source None s plan e = let bad : None ≡ Some plan = e in absurd (cc)
same_source (Some k) s plan e = sym (ap (λ o. (unwrap_or o plan).source) e)

same_params_in : (link : Option Link) (s : Scenario) (plan : Plan) → plan_with link s ≡ Some plan
    → ForSome link (λ k. k.params ≡ s.shape) → plan.link.params ≡ s.shape
same_params_in None s plan e same = let bad : None ≡ Some plan = e in absurd (cc)
same_params_in (Some k) s plan e same = sym (ap (λ o. (unwrap_or o plan).link.params) e)
    ∙ same k refl

some_plan_in : (link : Option Link) (s : Scenario) → is_some link ≡ true
    → (plan : Plan) × (plan_with link s ≡ Some plan)
some_plan_in None s e = absurd (cc)
some_plan_in (Some k) s e = (_, refl)

pub same_params : (s : Scenario) (plan : Plan) → plan_of s ≡ Some plan → plan.link.params ≡ s.shape
same_params s plan is = same_params_in s.link s plan is s.same_shape

-- its lanes are wired and routed each to one
pub are-orders : (s : Scenario) (plan : Plan) → plan_of s ≡ Some plan
    → (is_order plan.link.params.l plan.wire ≡ true)
    × (is_order plan.link.params.l plan.route ≡ true)
are-orders s plan is =
    let facts = plan-facts s plan is in
    let same = same_params s plan is in (
      rw (facts.wire, same) s.wire_lanes,
      rw (facts.route, same) s.route_lanes,
    )

-- a scenario with a link has a plan
pub some_plan : (s : Scenario) → is_some s.link ≡ true → (plan : Plan) × (plan_of s ≡ Some plan)
some_plan s e = some_plan_in s.link s e

frame_below_in : (plan : Plan) (i : Input) (p : Params) (n r : ℕ) → plan.link.params ≡ p
    → plan.source ≡ source_in i → All (λ w. w < 2 ^ (p.n + p.cs)) (input_words i)
    → get_or (source_frame plan n) r 0 < 2 ^ (p.n + p.cs)
unfolding source_frame
frame_below_in plan i p n r same source fit =
    rw (same, source) (below_in_map (numbers_from 0 (p.m * p.s)) r (2 ^ (p.n + p.cs))
    (source_word p (source_in i) n) (pow_pos (p.n + p.cs)) (λ k. word_below i p n k fit))

-- the words of its frames fit
pub frame_below : (s : Scenario) (plan : Plan) (n r : ℕ) → plan_of s ≡ Some plan
    → get_or (source_frame plan n) r 0 < 2 ^ (s.shape.n + s.shape.cs)
frame_below s plan n r is = frame_below_in plan s.input s.shape n r (same_params s plan is)
    (same_source s.link s plan is) s.words_fit

pub fits : (s : Scenario) (plan : Plan) (p : Params) (n r : ℕ) (words : List ℕ)
    → plan_of s ≡ Some plan → s.shape ≡ p → words ≡ source_frame plan n
    → slice_index words r < 2 ^ (p.n + p.cs)
fits s plan p n r words is same e = rw (e, sym same) (frame_below s plan n r is)

pub frame_is : (s : Scenario) (plan : Plan) (p : Params) (n : ℕ) (words octets : List ℕ) → OneFrame
    → plan_of s ≡ Some plan → s.shape ≡ p → broken_law s.shape ≡ None
    → length words ≡ p.m * p.s → words ≡ source_frame plan n → IsFrame p words octets
    → octets ≡ frame_of plan.link.params (source_frame plan n)
frame_is s plan p n words octets one is same legal whole e laid =
    let fit : FitFrame p words =
    record { whole = whole; below = λ r inside. fits s plan p n r words is same e } in
    one p words octets (ap broken_law (sym same) ∙ legal) fit laid
    ∙ ap (frame_of p) e
    ∙ ap (λ (q : Params). frame_of q (source_frame plan n)) (sym (same_params s plan is ∙ same))

-- what a slice's borrow of a list leaves in it
pub left_in : (k : ℕ) (written before : List ℕ) → k ≡ length written
    → take k (written ++ drop (length written) before) ≡ written
left_in k written before e = ap (λ (n : ℕ). take n (written ++ drop (length written) before)) e
    ∙ take-append_seam written (drop (length written) before)

-- ---- the sizes of a feed

still-room : (frames each : ℕ) (before now : List ℕ) → HasRoom frames each before
    → length now ≡ length before → HasRoom frames each now
still-room frames each before now h same = record {
  of_one = λ none. same ∙ h.of_one none;
  of_all = λ some. same ∙ h.of_all some;
}

-- what was written left them as they were
pub still-sizes : (p : Params) (size per_tick frames : ℕ) (words octets : List ℕ)
    (new_words new_octets : List ℕ) → HasFeedSizes p size per_tick frames words octets
    → length new_words ≡ length words → length new_octets ≡ length octets
    → HasFeedSizes p size per_tick frames new_words new_octets
still-sizes p size per_tick frames words octets new_words new_octets h same_words same_octets =
    record {
      size_is = h.size_is;
      some = h.some;
      most = h.most;
      per_tick_is = h.per_tick_is;
      few = h.few;
      whole = h.whole;
      words_are = still-room frames (p.m * p.s) words new_words h.words_are same_words;
      octets_are = still-room frames (p.l * p.f) octets new_octets h.octets_are same_octets;
    }

-- as long as what a slice's borrow wrote
pub left_length : (k : ℕ) (written before : List ℕ) → k ≡ length written → k ≡ length before
    → length (take k (written ++ drop (length written) before)) ≡ length before
left_length k written before e same = ap length (left_in k written before e) ∙ sym e ∙ same
