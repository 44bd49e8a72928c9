-- Facts on the checks of a record.
use Rattle.std.proofs.Common.{◌≡◌, ◌+◌, ◌∙◌, ◌==◌, ℕ, Bool, true, List, [], ◌∷◌, Option, Some, None, map, take, drop, length, length-append, nat_lt, ◌-◌, ◌≤◌, ◌++◌, arith, refl, sym, ap, option_map, eq-eqb}
use Rattle.std.proofs.Math.Seq.{drop-append_seam}
use Rattle.std.proofs.lemmas.List.{take_all}
use Rattle.link_params.specs.declared.fields.Params.{Params}
use Rattle.link_params.specs.declared.fields.Timing.{Timing}
use Rattle.link_params.specs.Laws.{broken_law}
use Rattle.link_params.specs.TimingLaws.{broken_timing}
use Rattle.scenario.specs.declared.cause.Cause.TheVariants as cause
use Rattle.scenario.specs.declared.fault.Fault.{Fault}
use Rattle.scenario.specs.Text.{Text}
use Rattle.scenario.specs.Check.{first, fault, lowest, Checks, basic_fault, fault_of}
use Rattle.scenario.specs.Reads.{link_law, params_of, timing_law, timing_of, words_in_fields, word_or_0, word_limit}

-- a word that is not too large
abbrev pub is_word_of : Params → Text → Bool
is_word_of p text = nat_lt (word_or_0 text) (word_limit p)

first-pass : (a : Option Fault) (more : List (Option Fault)) → a ≡ None
    → first (a ∷ more) ≡ first more
first-pass a more e = rw e refl

first-stop : (a : Option Fault) (more : List (Option Fault)) (f : Fault) → a ≡ Some f
    → first (a ∷ more) ≡ Some f
first-stop a more f e = rw e refl

pub fault_of-none : (n : ℕ) (c : Checks) → basic_fault n c ≡ None → first c.more ≡ None
    → fault_of n c ≡ None
fault_of-none n c e m = first-pass (basic_fault n c) c.more e ∙ m

pub fault_of-more : (n : ℕ) (c : Checks) (f : Fault) → basic_fault n c ≡ None
    → first c.more ≡ Some f → fault_of n c ≡ Some f
fault_of-more n c f e m = first-pass (basic_fault n c) c.more e ∙ m

pub fault_of-basic : (n : ℕ) (c : Checks) (f : Fault) → basic_fault n c ≡ Some f
    → fault_of n c ≡ Some f
fault_of-basic n c f e = first-stop (basic_fault n c) c.more f e

pub basic-ranges : (n : ℕ) (c : Checks) → n ≡ c.count + 1
    → option_map (fault cause.Form) (lowest 1 c.forms) ≡ None
    → basic_fault n c ≡ option_map (fault cause.Range) (lowest 1 c.ranges)
basic-ranges n c e forms = let same : (n == c.count + 1) ≡ true = eq-eqb n (c.count + 1) e in
    rw (same, forms) (last (option_map (fault cause.Range) (lowest 1 c.ranges)))
  where
    last : (o : Option Fault) → first (o ∷ []) ≡ o
    last None = refl
    last (Some f) = refl

pub basic-forms : (n : ℕ) (c : Checks) (f : Fault) → n ≡ c.count + 1
    → option_map (fault cause.Form) (lowest 1 c.forms) ≡ Some f → basic_fault n c ≡ Some f
basic-forms n c f e forms = let same : (n == c.count + 1) ≡ true = eq-eqb n (c.count + 1) e in
    rw (same, forms) refl

pub link_law-is : (ts : List Text) (p : Params) (o : Option ℕ) → p ≡ params_of ts → broken_law p ≡ o
    → link_law ts ≡ o
unfolding link_law
link_law-is ts p o e h = ap broken_law (sym e) ∙ h

pub timing_law-is : (p : Params) (ts : List Text) (t : Timing) (o : Option ℕ) → t ≡ timing_of ts
    → broken_timing p t ≡ o → timing_law p ts ≡ o
unfolding timing_law
timing_law-is p ts t o e h = ap (broken_timing p) (sym e) ∙ h

pub words-below : (ts : List Text) (limit : ℕ)
    → map (λ w. nat_lt w limit) (map word_or_0 ts) ≡ map (λ t. nat_lt (word_or_0 t) limit) ts
words-below [] limit = refl
words-below (t ∷ ts) limit = ap (λ bs. nat_lt (word_or_0 t) limit ∷ bs) (words-below ts limit)

-- what was added behind others
pub added : (old due new : List ℕ) (n : ℕ) → new ≡ old ++ due → n ≡ length old
    → take (length new - n) (drop n new) ≡ due
added old due new n e len =
    let rest : drop n new ≡ due = ap (drop n) e
    ∙ (ap (λ k. drop k (old ++ due)) len ∙ drop-append_seam old due) in
    let total : length new ≡ length old + length due = ap length e ∙ length-append old due in
    let enough : length due ≤ length new - n = omega arith in
    ap (take (length new - n)) rest ∙ take_all (length new - n) due enough

pub frame-ranges : (ts : List Text) (p : Params) (limit : ℕ) (part : List ℕ) → part ≡ words_in_fields ts
    → limit ≡ word_limit p
    → lowest 1 (map (λ w. nat_lt w limit) part) ≡ lowest 1 (map (is_word_of p) (drop 1 ts))
frame-ranges ts p limit part e l =
    rw (e, l) (ap (lowest 1) (words-below (drop 1 ts) (word_limit p)))
