-- What the calls of a scenario from a number give together.
use Rattle.std.proofs.Common.{◌≡◌, ◌∙◌, ℕ, ◌+◌, ◌*◌, List, [], ◌∷◌, ◌++◌, map, replicate, false, refl, sym, ap, ap₂, arith}
use Rattle.link_params.specs.declared.fields.Params.{Params}
use Rattle.link_params.specs.declared.fields.Timing.{Timing}
use Rattle.link_params.specs.Links.{Link}
use Rattle.scenario.specs.declared.plan.Event.{Event}
use Rattle.scenario.specs.declared.plan.Flip.{Flip}
use Rattle.scenario.specs.declared.plan.Jitter.{Jitter}
use Rattle.scenario.specs.declared.plan.Print.TheVariants as print
use Rattle.scenario.specs.Generated.{drawn_delay, drawn_flip, drawn_jitter, drawn_params, drawn_reset, drawn_timing, generated, latest, state}
use Rattle.scenario.specs.Plans.{Source, numbers_from}
use Rattle.scenario.proofs.DrawLemmas.{state-at}

-- what is drawn from a number: shape, link, events, jitters and flips
pub record AreDrawn (number : ℕ) (p : Params) (k : Link) (es : List Event) (js : List Jitter)
    (fs : List Flip) : Type 0 where
  pub shape : p ≡ drawn_params number
  pub link : k ≡ record { params = p; timing = drawn_timing number p }
  pub events : es ≡ map (drawn_delay number p) (numbers_from 0 p.l) ++ drawn_reset number p ∷ []
  pub jitters : js ≡ map (drawn_jitter number p) (numbers_from 0 8)
  pub flips : fs ≡ map (drawn_flip number p) (numbers_from 0 16)

-- the plan of what is drawn is the one of the number
pub plan-is : (number : ℕ) (p : Params) (k : Link) (es : List Event) (js : List Jitter)
    (fs : List Flip) → AreDrawn number p k es js fs
    → record {
      version = 1;
      link = k;
      ticks = 16384;
      print = print.None;
      source = Source.Ramp 0 1;
      events = es;
      jitters = js;
      flips = fs;
      wire = numbers_from 0 p.l;
      route = numbers_from 0 p.l;
      inverted = replicate p.l false;
    } ≡ generated number
unfolding generated
plan-is number p k es js fs is = rw (is.events, is.jitters, is.flips, is.link, is.shape) refl

link-is : (k : Link) (p : Params) (t : Timing) → k.params ≡ p → k.timing ≡ t
    → k ≡ record { params = p; timing = t }
link-is k p t params timing = let whole : Params → Timing → Link =
    (λ q u. record { params = q; timing = u }) in ap₂ whole params timing

-- the states between the calls: s0 before the first, s3 with the shape, s6 with the link, then with
-- the delays, the jitters and the reset
pub made : (number : ℕ) (p : Params) (k : Link) (ds : List Event) (r : Event) (es : List Event)
    (js : List Jitter) (fs : List Flip) (s0 s3 s6 s7 s8 s9 : ℕ)
    → s0 ≡ state number 0
    → ((n : ℕ) → s0 ≡ state n 0 → p ≡ drawn_params n)
    → ((n : ℕ) → s0 ≡ state n 0 → s3 ≡ state n 3)
    → k.params ≡ p
    → ((n : ℕ) → s3 ≡ state n 3 → k.timing ≡ drawn_timing n p)
    → ((n : ℕ) → s3 ≡ state n 3 → s6 ≡ state n 6)
    → ((n : ℕ) → s6 ≡ state n 6 → k.timing.w_hi ≡ latest n k.params
    → ds ≡ map (drawn_delay n k.params) (numbers_from 0 k.params.l))
    → ((n : ℕ) → s6 ≡ state n 6 → s7 ≡ state n (6 + 2 * k.params.l))
    → ((n : ℕ) (q : Params) → s7 ≡ state n (6 + 2 * q.l)
    → js ≡ map (drawn_jitter n q) (numbers_from 0 8))
    → ((n i : ℕ) → s7 ≡ state n i → s8 ≡ state n (i + 8))
    → ((n : ℕ) (q : Params) → s8 ≡ state n (14 + 2 * q.l) → r ≡ drawn_reset n q)
    → ((n i : ℕ) → s8 ≡ state n i → s9 ≡ state n (i + 1))
    → es ≡ ds ++ r ∷ []
    → ((n : ℕ) → s9 ≡ state n (15 + 2 * p.l)
    → fs ≡ map (drawn_flip n p) (numbers_from 0 16))
    → AreDrawn number p k es js fs
made number p k ds r es js fs s0 s3 s6 s7 s8 s9 zero shape three params timing six delays seven
    jitters eight reset nine events flips =
    let at3 = three number zero in
    let at6 = six number at3 in
    let same : k.timing ≡ drawn_timing number p = timing number at3 in
    let high : k.timing.w_hi ≡ latest number k.params =
    ap (λ (t : Timing). t.w_hi) same ∙ ap (latest number) (sym params) in
    let at7 : s7 ≡ state number (6 + 2 * p.l) =
    seven number at6 ∙ ap (λ (q : Params). state number (6 + 2 * q.l)) params in
    let e : 6 + 2 * p.l + 8 ≡ 14 + 2 * p.l = omega arith in
    let at8 : s8 ≡ state number (14 + 2 * p.l) =
    eight number (6 + 2 * p.l) at7 ∙ state-at number _ _ e in
    let f : 14 + 2 * p.l + 1 ≡ 15 + 2 * p.l = omega arith in
    let at9 : s9 ≡ state number (15 + 2 * p.l) =
    nine number (14 + 2 * p.l) at8 ∙ state-at number _ _ f in
    let ds-are : ds ≡ map (drawn_delay number p) (numbers_from 0 p.l) = delays number at6 high
    ∙ ap (λ (q : Params). map (drawn_delay number q) (numbers_from 0 q.l)) params in
    record {
      shape = shape number zero;
      link = link-is k p (drawn_timing number p) params same;
      events = events
          ∙ ap₂ (λ (xs : List Event) (x : Event). xs ++ x ∷ []) ds-are (reset number p at8);
      jitters = jitters number p at7;
      flips = flips number at9;
    }
