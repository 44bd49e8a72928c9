-- Rows that were handed on.
use Rattle.std.proofs.Common.{◌≡◌, ℕ, zero, suc, ◌≤◌, ◌<◌, ◌+◌, ◌*◌, ◌^◌, Bool, true, false, List, [], ◌∷◌, ◌++◌, take, length, Option, Some, Result, Ok, Err, OnOk, OnErr, if◌then◌else◌, is_ok, IsErr, append-nil, append_assoc, arith, ap, inl, inr, sym, subst, refl, ◌∙◌}
use Rattle.std.proofs.Math.Seq.{take-append-add}
use Rattle.std.proofs.lemmas.Bool.{cond-false, true≢false}
use Rattle.std.proofs.lemmas.List.Elements.{All-from_get_or}
use Rattle.jesd_base.specs.Streams.{Rose}
use Rattle.link_params.specs.declared.fields.Params.{Params}
use Rattle.scenario.specs.declared.scenario_type.Scenario.{Scenario}
use Rattle.scenario.specs.Plans.{Plan, plan_of, source_frame}
use Rattle.sample_map.specs.Layout.{AreWords}
use Rattle.link_model.specs.Report.{Printed}
use Rattle.link_run.specs.Rows.{AreFrameWords, WasHanded}
use Rattle.link_run.proofs.FeedLemmas.{fits}

-- a count that rose still did where it was lower before
rose-since : (first old now : ℕ) → first ≤ old → Rose old now → Rose first now
rose-since first old now low (inl more) = inl (omega arith)
rose-since first old now low (inr most) = inr most

-- nothing was handed on
pub handed-none : {A : Type 0} {took : A → A → List Printed → Type 0} {shape : A → Option Params}
    {faults : A → ℕ} (a : A)
    → WasHanded A took shape faults a a true []
handed-none {A} {took} {shape} {faults} a = record {
  all = λ _ first before t. subst (took first a) (sym (append-nil before)) t;
  prefix = λ e. absurd (true≢false e);
  failed = λ e. absurd (true≢false e);
  count = omega arith;
  same_shape = refl;
}

-- a row was handed on
pub handed-row : {A T E : Type 0} {took : A → A → List Printed → Type 0}
    {shape : A → Option Params} {faults : A → ℕ} (old now : A) (x : Printed) (r : Result T E)
    → ((first : A) (before : List Printed) → took first old before
    → OnOk r (took first now (before ++ x ∷ [])))
    → ((first : A) (before : List Printed) → took first old before → OnErr r (took first now before))
    → OnErr r (Rose (faults old) (faults now))
    → faults old ≤ faults now → shape now ≡ shape old
    → WasHanded A took shape faults old now (is_ok r) (x ∷ [])
handed-row old now x (Ok v) took nothing failed count same = record {
  all = λ _. took;
  prefix = λ e. absurd (true≢false e);
  failed = λ e. absurd (true≢false e);
  count = count;
  same_shape = same;
}
handed-row {A} {T} {E} {took} old now x (Err v) _ nothing failed count same = record {
  all = λ e. absurd (true≢false (sym e));
  prefix = λ _ first before t. (
    0,
    subst (took first now) (sym (append-nil before)) (nothing first before t),
  );
  failed = λ _. failed;
  count = count;
  same_shape = same;
}

-- rows and then others, all of them or the first ones
pub handed-then : {A : Type 0} {took : A → A → List Printed → Type 0} {shape : A → Option Params}
    {faults : A → ℕ} (start old now : A) (whole : Bool) (before more : List Printed)
    → WasHanded A took shape faults start old true before
    → WasHanded A took shape faults old now whole more
    → WasHanded A took shape faults start now whole (before ++ more)
handed-then {A} {took} start old now whole before more had next = record {
  all = λ e first had_before t. subst (took first now) (append_assoc had_before before more)
      (next.all e first (had_before ++ before) (had.all refl first had_before t));
  prefix = λ e first had_before t.
      let (n, some) = next.prefix e first (had_before ++ before) (had.all refl first had_before t) in (
        length before + n,
        subst (took first now) (append_assoc had_before before (take n more)
            ∙ ap (λ (xs : List Printed). had_before ++ xs) (sym (take-append-add before more n)))
            some,
      );
  failed = λ e. rose-since _ _ _ had.count (next.failed e);
  count = (let a = had.count in let b = next.count in omega arith);
  same_shape = next.same_shape ∙ had.same_shape;
}

-- the first of some rows are the first ones where more follow
first-of : (n : ℕ) (xs more : List Printed)
    → (m : ℕ) × (take n xs ≡ take m (xs ++ more))
first-of zero xs more = (0, refl)
first-of (suc n) [] more = (0, refl)
first-of (suc n) (x ∷ xs) more =
    let (m, same) = first-of n xs more in
    (suc m, ap (λ (ys : List Printed). x ∷ ys) same)

-- cut short, with others that were to follow
pub handed-cut : {A : Type 0} {took : A → A → List Printed → Type 0} {shape : A → Option Params}
    {faults : A → ℕ} (start now : A) (rows more : List Printed)
    → WasHanded A took shape faults start now false rows
    → WasHanded A took shape faults start now false (rows ++ more)
handed-cut {A} {took} start now rows more had = record {
  all = λ e. absurd (true≢false (sym e));
  prefix = λ e first before t.
      let (n, some) = had.prefix e first before t in
      let (m, same) = first-of n rows more in
      (m, subst (λ (xs : List Printed). took first now (before ++ xs)) same some);
  failed = had.failed;
  count = had.count;
  same_shape = had.same_shape;
}

-- other rows that are the same
pub handed-same : {A : Type 0} {took : A → A → List Printed → Type 0} {shape : A → Option Params}
    {faults : A → ℕ} {start now : A} {whole : Bool} (xs ys : List Printed) → xs ≡ ys
    → WasHanded A took shape faults start now whole xs
    → WasHanded A took shape faults start now whole ys
handed-same {A} {took} {shape} {faults} {start} {now} {whole} xs ys same had =
    subst (WasHanded A took shape faults start now whole) same had

-- rows that are handed on, where not only the first and the last one are
pub handed-shown : {A : Type 0} {took : A → A → List Printed → Type 0} {shape : A → Option Params}
    {faults : A → ℕ} {start now : A} {whole : Bool} (short : Bool) (xs : List Printed)
    → short ≡ false
    → WasHanded A took shape faults start now whole xs
    → WasHanded A took shape faults start now whole (if short then [] else xs)
handed-shown short xs is had = handed-same xs _ (sym (cond-false short [] xs is)) had

-- for another flag that is the same
pub shown-as : {A : Type 0} {took : A → A → List Printed → Type 0} {shape : A → Option Params}
    {faults : A → ℕ} {start now : A} {whole : Bool} (old short : Bool) (xs : List Printed)
    → old ≡ short
    → WasHanded A took shape faults start now whole (if old then [] else xs)
    → WasHanded A took shape faults start now whole (if short then [] else xs)
shown-as old short xs is had =
    handed-same _ _ (ap (λ (b : Bool). if b then [] else xs) is) had

abbrev no_rows : List Printed
no_rows = []

none-shown : (short : Bool) → (if short then no_rows else no_rows) ≡ no_rows
none-shown true = refl
none-shown false = refl

shown-append : (short : Bool) (xs ys : List Printed)
    → (if short then [] else xs) ++ (if short then [] else ys) ≡ (if short then [] else xs ++ ys)
shown-append true xs ys = refl
shown-append false xs ys = refl

-- no such rows
pub shown-none : {A : Type 0} {took : A → A → List Printed → Type 0} {shape : A → Option Params}
    {faults : A → ℕ} (a : A) (short : Bool) (xs : List Printed) → xs ≡ []
    → WasHanded A took shape faults a a true (if short then [] else xs)
shown-none a short xs none =
    handed-same [] _ (sym (ap (λ (ys : List Printed). if short then [] else ys) none
    ∙ none-shown short)) (handed-none a)

-- no rows are handed on where one of two things is not so
pub shown-not : (short prints : Bool) (xs : List Printed)
    → (if short then false else prints) ≡ false
    → (if short then [] else (if prints then xs else [])) ≡ []
shown-not true prints xs is = refl
shown-not false true xs is = absurd (true≢false is)
shown-not false false xs is = refl

-- such rows and then others
pub shown-then : {A : Type 0} {took : A → A → List Printed → Type 0} {shape : A → Option Params}
    {faults : A → ℕ} {start old now : A} {whole : Bool} (short same : Bool)
    (xs ys zs : List Printed) → same ≡ short → xs ++ ys ≡ zs
    → WasHanded A took shape faults start old true (if short then [] else xs)
    → WasHanded A took shape faults old now whole (if same then [] else ys)
    → WasHanded A took shape faults start now whole (if short then [] else zs)
shown-then short same xs ys zs is all had next =
    handed-same _ _ (shown-append short xs ys
    ∙ ap (λ (rows : List Printed). if short then [] else rows) all)
    (handed-then _ _ _ _ _ _ had (shown-as same short ys is next))

-- cut short
pub shown-cut : {A : Type 0} {took : A → A → List Printed → Type 0} {shape : A → Option Params}
    {faults : A → ℕ} {start now : A} (short : Bool) (xs ys zs : List Printed) → xs ++ ys ≡ zs
    → WasHanded A took shape faults start now false (if short then [] else xs)
    → WasHanded A took shape faults start now false (if short then [] else zs)
shown-cut short xs ys zs all had =
    handed-same _ _ (shown-append short xs ys
    ∙ ap (λ (rows : List Printed). if short then [] else rows) all)
    (handed-cut _ _ _ (if short then [] else ys) had)

-- what a result says
pub handed-ok : {A T E : Type 0} {took : A → A → List Printed → Type 0} {shape : A → Option Params}
    {faults : A → ℕ} {start now : A} {rows : List Printed} (r : Result T E) (v : T) → r ≡ Ok v
    → WasHanded A took shape faults start now (is_ok r) rows
    → WasHanded A took shape faults start now true rows
handed-ok {A} {T} {E} {took} {shape} {faults} {start} {now} {rows} r v is had =
    subst (λ (x : Result T E). WasHanded A took shape faults start now (is_ok x) rows) is had

pub handed-err : {A T E : Type 0} {took : A → A → List Printed → Type 0} {shape : A → Option Params}
    {faults : A → ℕ} {start now : A} {rows : List Printed} (r : Result T E) (e : E) → r ≡ Err e
    → WasHanded A took shape faults start now (is_ok r) rows
    → WasHanded A took shape faults start now false rows
handed-err {A} {T} {E} {took} {shape} {faults} {start} {now} {rows} r e is had =
    subst (λ (x : Result T E). WasHanded A took shape faults start now (is_ok x) rows) is had

-- where the taker failed
pub handed-failed : {A T E : Type 0} {took : A → A → List Printed → Type 0}
    {shape : A → Option Params} {faults : A → ℕ} {start now : A} {rows : List Printed}
    (r : Result T E) → IsErr r
    → WasHanded A took shape faults start now false rows
    → WasHanded A took shape faults start now (is_ok r) rows
handed-failed (Ok v) none had = absurd (true≢false (sym none))
handed-failed (Err e) failed had = had

-- a taker keeps its shape
pub shape-kept : {A : Type 0} {took : A → A → List Printed → Type 0} {shape : A → Option Params}
    {faults : A → ℕ} {start now : A} {whole : Bool} {rows : List Printed} (p : Params)
    → WasHanded A took shape faults start now whole rows
    → ((q : Params) → shape start ≡ Some q → q ≡ p) → (q : Params) → shape now ≡ Some q → q ≡ p
shape-kept p had of q is = of q (sym had.same_shape ∙ is)

-- the words of a frame of the source
pub source-words : (s : Scenario) (plan : Plan) (n : ℕ) (p : Params) (words : List ℕ)
    → plan_of s ≡ Some plan → s.shape ≡ p → words ≡ source_frame plan n → length words ≡ p.m * p.s
    → AreFrameWords p words
source-words s plan n p words is same are long = record {
  count = long;
  below = All-from_get_or (λ w. w < 2 ^ (p.n + p.cs)) words 0
      (λ r below. fits s plan p n r words is same are);
}

-- those that are read from a frame
pub read-words : (p : Params) (octets words : List ℕ) → AreWords p octets words
    → AreFrameWords p words
read-words p octets words are =
    let long = are.whole in
    record {
      count = long;
      below = All-from_get_or (λ w. w < 2 ^ (p.n + p.cs)) words 0
          (λ r below. are.below r (omega arith));
    }
