-- The input that was read holds what the records said.
use Rattle.std.proofs.Common.{◌⊎◌, inl, inr, subst, ◌≡◌, ◌≤◌, ◌<◌, ◌+◌, ◌*◌, ◌%◌, ◌^◌, ℕ, List, [], ◌∷◌, Option, Some, None, length, true, refl, sym, arith}
use Rattle.std.proofs.Math.Nat.{pow-le-pow_right, zero-mod}
use Rattle.std.proofs.lemmas.Bool.{and_from, le-leb, lt-ltb}
use Rattle.std.proofs.lemmas.List.Elements.{All-nil}
use Rattle.std.specs.List.{All}
use Rattle.link_params.specs.declared.fields.Params.{Params}
use Rattle.link_params.specs.Laws.{broken_law}
use Rattle.link_params.proofs.LawFacts.{legal_sizes}
use Rattle.scenario.specs.declared.input.Input.{Input}
use Rattle.scenario.specs.declared.input.Input.TheVariants as input
use Rattle.scenario.specs.declared.stage.Ramp.{Ramp as RampRead}
use Rattle.scenario.specs.Inputs.{input_words}
use Rattle.scenario.specs.Limits.{has_words, ramp_fits}
use Rattle.scenario.specs.Plans.{source_in, source_of}
use Rattle.scenario.specs.Reads.{Seen, word_limit}
use Rattle.scenario.specs.kept.Sound.{AreFrames, AreOctets, AreSound, HasNone, IsInput, IsSound}
use Rattle.scenario.specs.declared.stage.Stage.TheVariants as stage
use Rattle.scenario.proofs.SoundLemmas.{no-frames, no-octets}

-- an input gives these words, and is what a scenario may hold
pub record IsGiven (p : Params) (words : List ℕ) (i : Input) : Type 0 where
  pub same : words ≡ input_words i
  pub whole : length (input_words i) % (p.m * p.s) ≡ 0
  pub fit : All (λ w. w < 2 ^ (p.n + p.cs)) (input_words i)
  pub ramp : ramp_fits p i ≡ true
  pub some : has_words i ≡ true

two-words : (p : Params) → broken_law p ≡ None → 1 < word_limit p
two-words p legal =
    let some = (legal_sizes p legal).n_low in
    let up : 2 ^ 1 ≤ 2 ^ (p.n + p.cs) = pow-le-pow_right (let z : 0 < 2 = omega arith in z)
    (let le : 1 ≤ p.n + p.cs = omega arith in le) in
    omega arith

pub given : (p : Params) (o : Option RampRead) (words : List ℕ) (i : Input) → broken_law p ≡ None
    → source_in i ≡ source_of o words → IsInput p o words → IsGiven p words i
given p (Some r) words (input.Ramp start step) legal e is =
    let a : start ≡ r.start = cc e in
    let b : step ≡ r.step = cc e in
    record {
      same = is.2;
      whole = zero-mod (p.m * p.s);
      fit = All-nil (λ w. w < 2 ^ (p.n + p.cs));
      ramp = and_from _ _ (lt-ltb start (word_limit p) (rw a is.0))
          (lt-ltb step (word_limit p) (rw b is.1));
      some = refl;
    }
given p (Some r) words (input.Frames v) legal e is = cc e
given p None [] (input.Ramp start step) legal e is =
    let a : start ≡ 0 = cc e in
    let b : step ≡ 1 = cc e in
    let two = two-words p legal in
    record {
      same = refl;
      whole = zero-mod (p.m * p.s);
      fit = All-nil (λ w. w < 2 ^ (p.n + p.cs));
      ramp = and_from _ _ (lt-ltb start (word_limit p) (omega arith))
          (lt-ltb step (word_limit p) (omega arith));
      some = refl;
    }
given p None [] (input.Frames v) legal e is = cc e
given p None (w ∷ words) (input.Ramp start step) legal e is = cc e
given p None (w ∷ words) (input.Frames v) legal e is =
    let same : v.items ≡ w ∷ words = cc e in
    record {
      same = sym same;
      whole = rw same is.whole;
      fit = rw same is.fit;
      ramp = refl;
      some = le-leb 1 (length v.items) (rw same (omega arith));
    }

-- what is to be mapped or unmapped: whole frames, whole octets, and no events, jitters, flips and
-- lanes
pub mapped-sound : (seen : Seen) (p : Params) → (seen.stage ≡ stage.Frames p)
    ⊎ (seen.stage ≡ stage.Octets p) → IsSound seen
    → AreFrames p seen.words × AreOctets p seen.octets × HasNone seen
mapped-sound seen p (inl frames) sound =
    let is = subst (λ s. AreSound s seen) frames sound in (is.0, no-octets p seen.octets is.1, is.2)
mapped-sound seen p (inr octets) sound =
    let is = subst (λ s. AreSound s seen) octets sound in (no-frames p seen.words is.0, is.1, is.2)
