-- Rows that a taker of lines took.
use Rattle.std.proofs.Common.{◌≡◌, ◌≤◌, ◌+◌, ℕ, Bool, true, false, List, [], ◌∷◌, ◌++◌, length, take, Option, Some, None, refl, sym, ap, subst, ◌∙◌, append_assoc, append-nil, arith, inl, inr}
use Rattle.std.proofs.Math.Seq.{take-append-add}
use Rattle.std.proofs.lemmas.Bool.{cases_lt}
use Rattle.std.proofs.lemmas.List.{flat_map_more, take-append-le, take_all}
use Rattle.jesd_base.specs.Streams.{Added, Rose}
use Rattle.jesd_base.proofs.StreamLemmas.{added-append}
use Rattle.scenario.specs.Plans.{Plan, plan_of}
use Rattle.scenario.specs.ReportLines.{line_of}
use Rattle.link_model.specs.Report.{Printed, lines}
use Rattle.link_run.specs.kept.Lines.{HasAll, HasPrefix, HasTaken, TookLines, Writing}

-- a row more is its line more
pub lines-more : (s : Plan) (rows : List Printed) (x : Printed)
    → lines s (rows ++ x ∷ []) ≡ lines s rows ++ line_of s.version s.link x.row x.words
unfolding lines
lines-more s rows x = sym (flat_map_more (λ y. line_of s.version s.link y.row y.words) [] rows x)

-- a prefix is one of a longer list
pub prefix-longer : (n : ℕ) (xs ys : List ℕ) → (k : ℕ) × (take n xs ≡ take k (xs ++ ys))
prefix-longer n xs ys = elim (cases_lt n (length xs)) [
  | inl below ↦ (n, sym (take-append-le n xs ys (omega arith)))
  | inr up ↦ (
    length xs,
    take_all n xs (omega arith)
        ∙ sym (take-append-le (length xs) xs ys (omega arith) ∙ take_all (length xs) xs (omega arith)),
  )
]

pub added-none : (w : Option (List ℕ)) → Added w w []
added-none None = refl
added-none (Some x) = sym (append-nil x)

-- the bytes that were added may be spelled otherwise
pub added-as : (a b : Option (List ℕ)) (xs ys : List ℕ) → xs ≡ ys → Added a b xs → Added a b ys
added-as a b xs ys is h = subst (Added a b) is h

-- a count that rose later rose
pub rose-later : (a b c : ℕ) → a ≤ b → Rose b c → Rose a c
rose-later a b c up (inl more) = inl (omega arith)
rose-later a b c up (inr full) = inr full

pub rose-before : (a b c : ℕ) → a ≤ b → Rose a b → b ≤ c → Rose a c
rose-before a b c up (inl more) still = inl (omega arith)
rose-before a b c up (inr full) still = elim (cases_lt b c) [
  | inl below ↦ inl (omega arith)
  | inr same ↦ inr (let e : c ≡ b = omega arith in e ∙ full)
]

-- what was taken where the sink has not failed, and where it has
pub taken-all : (first now : Writing) (due : List ℕ) → now.failed ≡ false
    → HasTaken now.failed first now due → HasAll first now due
taken-all first now due fine h = subst (λ (b : Bool). HasTaken b first now due) fine h

pub taken-prefix : (first now : Writing) (due : List ℕ) → now.failed ≡ true
    → HasTaken now.failed first now due → HasPrefix first now due
taken-prefix first now due bad h = subst (λ (b : Bool). HasTaken b first now due) bad h

all-taken : (first now : Writing) (due : List ℕ) → now.failed ≡ false → HasAll first now due
    → HasTaken now.failed first now due
all-taken first now due fine h = subst (λ (b : Bool). HasTaken b first now due) (sym fine) h

prefix-taken : (first now : Writing) (due : List ℕ) → now.failed ≡ true → HasPrefix first now due
    → HasTaken now.failed first now due
prefix-taken first now due bad h = subst (λ (b : Bool). HasTaken b first now due) (sym bad) h

-- nothing was taken
pub took-none : (w : Writing) → w.bytes ≡ [] → w.failed ≡ false → TookLines w w []
unfolding lines
took-none w empty fine = record {
  same = refl;
  faults = omega arith;
  took = λ s is _. all-taken w w [] fine (record {
    text = [];
    added = added-none w.written;
    rest = sym (append-nil w.bytes);
  });
}

-- once the sink has failed, rows are taken and not written
failed-more : (first now : Writing) (due more : List ℕ) → HasPrefix first now due
    → HasPrefix first now (due ++ more)
failed-more first now due more h =
    let longer = prefix-longer h.count (first.bytes ++ due) more in
    record {
      count = longer.0;
      added = added-as first.written now.written (take h.count (first.bytes ++ due))
          (take longer.0 (first.bytes ++ (due ++ more)))
          (longer.1 ∙ ap (take longer.0) (append_assoc first.bytes due more)) h.added;
      rose = h.rose;
    }

pub took-failed : (first now : Writing) (rows : List Printed) (x : Printed) → now.failed ≡ true
    → TookLines first now rows → TookLines first now (rows ++ x ∷ [])
took-failed first now rows x bad h = record {
  same = h.same;
  faults = h.faults;
  took = λ s is fine.
      let due = lines s rows in
      let line = line_of s.version s.link x.row x.words in
      prefix-taken first now (lines s (rows ++ x ∷ [])) bad
      (subst (HasPrefix first now) (sym (lines-more s rows x))
      (failed-more first now due line (taken-prefix first now due bad (h.took s is fine))));
}

-- what is gathered is written
flushed : (first old now : Writing) (due : List ℕ) → HasAll first old due
    → Added old.written now.written old.bytes → now.bytes ≡ [] → HasAll first now due
flushed first old now due h wrote empty = record {
  text = h.text ++ old.bytes;
  added = added-append first.written old.written now.written h.text old.bytes h.added wrote;
  rest = ap (λ (b : List ℕ). (h.text ++ old.bytes) ++ b) empty ∙ append-nil (h.text ++ old.bytes)
      ∙ h.rest;
}

pub took-flushed : (first old now : Writing) (rows : List Printed)
    → now.scenario ≡ old.scenario → now.bytes ≡ [] → old.failed ≡ false → now.failed ≡ false
    → Added old.written now.written old.bytes → old.faults ≤ now.faults
    → TookLines first old rows → TookLines first now rows
took-flushed first old now rows same empty fine still wrote count h = record {
  same = same ∙ h.same;
  faults = (let before = h.faults in omega arith);
  took = λ s is start.
      let due = lines s rows in
      let had = taken-all first old due fine (h.took s is start) in
      all-taken first now due still (flushed first old now due had wrote empty);
}

-- a prefix of it is written, and the sink has failed
pub stopped : (first old now : Writing) (due : List ℕ) (n : ℕ) → HasAll first old due
    → Added old.written now.written (take n old.bytes) → Rose first.faults now.faults
    → HasPrefix first now due
stopped first old now due n h wrote rose = record {
  rose = rose;
  count = length h.text + n;
  added = added-as first.written now.written (h.text ++ take n old.bytes)
      (take (length h.text + n) (first.bytes ++ due))
      (sym (take-append-add h.text old.bytes n) ∙ ap (take (length h.text + n)) h.rest)
      (added-append first.written old.written now.written h.text (take n old.bytes) h.added wrote);
}

pub took-stopped : (first old now : Writing) (rows : List Printed) (n : ℕ)
    → now.scenario ≡ old.scenario → old.failed ≡ false → now.failed ≡ true
    → Added old.written now.written (take n old.bytes) → old.faults ≤ now.faults
    → Rose old.faults now.faults → TookLines first old rows → TookLines first now rows
took-stopped first old now rows n same fine bad wrote count rose h = record {
  same = same ∙ h.same;
  faults = (let before = h.faults in omega arith);
  took = λ s is start.
      let due = lines s rows in
      let had = taken-all first old due fine (h.took s is start) in
      prefix-taken first now due bad (stopped first old now due n had wrote
      (rose-later first.faults old.faults now.faults h.faults rose));
}

-- a line is gathered
pub took-gathered : (first old now : Writing) (rows : List Printed) (x : Printed)
    → now.scenario ≡ old.scenario → now.written ≡ old.written → old.failed ≡ false
    → now.failed ≡ false → now.faults ≡ old.faults
    → ((s : Plan) → plan_of old.scenario ≡ Some s
    → now.bytes ≡ old.bytes ++ line_of s.version s.link x.row x.words)
    → TookLines first old rows → TookLines first now (rows ++ x ∷ [])
took-gathered first old now rows x same written fine still count more h = record {
  same = same ∙ h.same;
  faults = (let before = h.faults in omega arith);
  took = λ s is start.
      let had = taken-all first old (lines s rows) fine (h.took s is start) in
      let line = line_of s.version s.link x.row x.words in
      let e = more s (ap plan_of h.same ∙ is) in
      all-taken first now (lines s (rows ++ x ∷ [])) still (record {
        text = had.text;
        added = subst (λ (o : Option (List ℕ)). Added first.written o had.text) (sym written) had.added;
        rest = ap (λ (b : List ℕ). had.text ++ b) e
            ∙ sym (append_assoc had.text old.bytes line)
            ∙ ap (λ (b : List ℕ). b ++ line) had.rest
            ∙ append_assoc first.bytes (lines s rows) line
            ∙ ap (λ (b : List ℕ). first.bytes ++ b) (sym (lines-more s rows x));
      });
}
