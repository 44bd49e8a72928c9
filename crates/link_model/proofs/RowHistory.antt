-- The rows and the counts of a run, with a tick more.
use Rattle.std.proofs.Common.{◌≡◌, ℕ, suc, ◌+◌, max, Bool, if◌then◌else◌, List, [], ◌∷◌, ◌++◌, length, map, refl, sym, ap, ap₂, ◌∙◌, append_assoc, append-nil, length-append, arith, flat_map, fold, count_by}
use Rattle.std.proofs.lemmas.List.{length-map, length_push}
use Rattle.std.proofs.lemmas.List.Concat.{flat_map-append}
use Rattle.std.proofs.lemmas.List.Sums.{fold-append}
use Rattle.link_params.specs.declared.cells.Mark.{Mark}
use Rattle.scenario.specs.Plans.{Plan}
use Rattle.link_model.proofs.TxHistory.{frames-before-more}
use Rattle.link_model.specs.Moments.{Delivered, History, Moment}
use Rattle.link_model.specs.Report.{Printed, alarms_from, is_bad, is_fixed, is_ok, marks, off_alarms, rows_from, rows_of_tick, totals}
use Rattle.link_model.specs.Sends.{frames_before}

rows-from-more : (h : History) (s : Plan) (t n : ℕ) (m : Moment)
    → rows_from s t n (h ++ m ∷ []) ≡ rows_from s t n h
    ++ rows_of_tick s (t + length h) (n + frames_before h) m
unfolding rows_from
rows-from-more [] s t n m =
    let tick : t + 0 ≡ t = omega arith in
    let begun : n + 0 ≡ n = omega arith in
    append-nil (rows_of_tick s t n m) ∙ ap₂ (λ (a b : ℕ). rows_of_tick s a b m) (sym tick)
    (sym begun)
rows-from-more (x ∷ h) s t n m =
    let tick : suc t + length h ≡ t + suc (length h) = omega arith in
    let count = length-append x.entered (flat_map (λ m. m.entered) h) in
    let begun : n + length x.entered + frames_before h ≡ n + frames_before (x ∷ h) = omega arith in
    ap (λ (l : List Printed). rows_of_tick s t n x ++ l)
    (rows-from-more h s (suc t) (n + length x.entered) m)
    ∙ sym (append_assoc (rows_of_tick s t n x) (rows_from s (suc t) (n + length x.entered) h)
    (rows_of_tick s (suc t + length h) (n + length x.entered + frames_before h) m))
    ∙ ap₂ (λ (a b : ℕ). rows_of_tick s t n x ++ rows_from s (suc t) (n + length x.entered) h
    ++ rows_of_tick s a b m) tick begun

pub rows-more : (s : Plan) (h : History) (m : Moment)
    → rows_from s 0 0 (h ++ m ∷ []) ≡ rows_from s 0 0 h
    ++ rows_of_tick s (length h) (frames_before h) m
rows-more s h m =
    let tick : 0 + length h ≡ length h = omega arith in
    let begun : 0 + frames_before h ≡ frames_before h = omega arith in
    rows-from-more h s 0 0 m ∙ ap₂ (λ (a b : ℕ). rows_from s 0 0 h ++ rows_of_tick s a b m) tick
    begun

alarms-from-more : (h : History) (s : Plan) (t : ℕ) (m : Moment)
    → alarms_from s t (h ++ m ∷ []) ≡ alarms_from s t h
    + (length (off_alarms s (t + length h)) + length m.decided.alarms)
unfolding alarms_from
alarms-from-more [] s t m =
    let tick : t + 0 ≡ t = omega arith in
    let all : length (off_alarms s t) + length m.decided.alarms + 0
    ≡ 0 + (length (off_alarms s t) + length m.decided.alarms) = omega arith in
    all ∙ ap (λ (a : ℕ). 0 + (length (off_alarms s a) + length m.decided.alarms)) (sym tick)
alarms-from-more (x ∷ h) s t m =
    let tick : suc t + length h ≡ t + suc (length h) = omega arith in
    let here : ℕ = length (off_alarms s t) + length x.decided.alarms in
    let later : ℕ = length (off_alarms s (suc t + length h)) + length m.decided.alarms in
    let all : here + (alarms_from s (suc t) h + later) ≡ here + alarms_from s (suc t) h + later =
    omega arith in
    ap (λ (k : ℕ). here + k) (alarms-from-more h s (suc t) m) ∙ all
    ∙ ap (λ (a : ℕ). here + alarms_from s (suc t) h
    + (length (off_alarms s a) + length m.decided.alarms)) tick

pub alarms-more : (s : Plan) (h : History) (m : Moment)
    → alarms_from s 0 (h ++ m ∷ []) ≡ alarms_from s 0 h
    + (length (off_alarms s (length h)) + length m.decided.alarms)
alarms-more s h m =
    let tick : 0 + length h ≡ length h = omega arith in
    alarms-from-more h s 0 m
    ∙ ap (λ (a : ℕ). alarms_from s 0 h + (length (off_alarms s a) + length m.decided.alarms))
    tick

pub marks-more : (h : History) (m : Moment) → marks (h ++ m ∷ []) ≡ marks h
    ++ map (λ d. d.mark) m.delivered
marks-more h m =
    flat_map-append (λ (m : Moment). map (λ d. d.mark) m.delivered) h (m ∷ [])
    ∙ ap (λ (l : List Mark). marks h ++ l) (append-nil (map (λ d. d.mark) m.delivered))

pub length-marks-more : (h : History) (m : Moment)
    → length (marks (h ++ m ∷ [])) ≡ length (marks h) + length (map (λ d. d.mark) m.delivered)
length-marks-more h m = ap length (marks-more h m)
    ∙ length-append (marks h) (map (λ d. d.mark) m.delivered)

-- the entries that the lanes held
abbrev pub held_in : History → List ℕ
held_in h = flat_map (λ m. m.held) h

pub held-more : (h : History) (m : Moment) → held_in (h ++ m ∷ []) ≡ held_in h ++ m.held
held-more h m = flat_map-append (λ (m : Moment). m.held) h (m ∷ [])
    ∙ ap (λ (l : List ℕ). held_in h ++ l) (append-nil m.held)

pub fullest-fold : (h : History) (m : Moment)
    → fold max 0 (held_in (h ++ m ∷ [])) ≡ fold max (fold max 0 (held_in h)) m.held
fullest-fold h m = ap (fold max 0) (held-more h m) ∙ fold-append max 0 (held_in h) m.held

pub max-from : (xs : List ℕ) (a : ℕ) → fold max a xs ≡ max a (fold max 0 xs)
max-from [] a = omega arith
max-from (x ∷ xs) a =
    let up = max-from xs (max a x) in
    let down = max-from xs (max 0 x) in
    let e : max (max a x) (fold max 0 xs) ≡ max a (max (max 0 x) (fold max 0 xs)) = omega arith in
    up ∙ e ∙ ap (max a) (sym down)

pub fullest-more : (h : History) (m : Moment)
    → fold max 0 (held_in (h ++ m ∷ [])) ≡ max (fold max 0 (held_in h)) (fold max 0 m.held)
fullest-more h m = fullest-fold h m ∙ max-from m.held (fold max 0 (held_in h))

count-from : (xs : List Mark) (a : ℕ) (test : Mark → Bool)
    → fold (λ k x. k + (if test x then 1 else 0)) a xs ≡ a + count_by test xs
count-from [] a test = omega arith
count-from (x ∷ xs) a test =
    let one : ℕ = if test x then 1 else 0 in
    let up = count-from xs (a + one) test in
    let down = count-from xs (0 + one) test in
    let e : a + one + count_by test xs ≡ a + (0 + one + count_by test xs) = omega arith in
    up ∙ e ∙ ap (λ (k : ℕ). a + k) (sym down)

count-append : (test : Mark → Bool) (xs ys : List Mark)
    → count_by test (xs ++ ys) ≡ count_by test xs + count_by test ys
count-append test xs ys = fold-append (λ (k : ℕ) (x : Mark). k + (if test x then 1 else 0)) 0 xs ys
    ∙ count-from ys (count_by test xs) test

-- how many frames have a mark of some kind
pub count-marks-more : (test : Mark → Bool) (h : History) (m : Moment)
    → count_by test (marks (h ++ m ∷ [])) ≡ count_by test (marks h) + count_by test
    (map (λ d. d.mark) m.delivered)
count-marks-more test h m = ap (count_by test) (marks-more h m)
    ∙ count-append test (marks h) (map (λ d. d.mark) m.delivered)

-- the counts, with a tick more
pub totals-more : (s : Plan) (h : History) (m : Moment) → totals s (h ++ m ∷ []) ≡ record {
  ticks = length h + 1;
  entered = frames_before h + length m.entered;
  delivered = length (marks h) + length m.delivered;
  ok = count_by is_ok (marks h) + count_by is_ok (map (λ d. d.mark) m.delivered);
  fixed = count_by is_fixed (marks h) + count_by is_fixed (map (λ d. d.mark) m.delivered);
  bad = count_by is_bad (marks h) + count_by is_bad (map (λ d. d.mark) m.delivered);
  alarms = alarms_from s 0 h + (length (off_alarms s (length h)) + length m.decided.alarms);
  fullest = max (fold max 0 (held_in h)) (fold max 0 m.held);
}
unfolding totals
totals-more s h m =
    let delivered : length (marks (h ++ m ∷ [])) ≡ length (marks h) + length m.delivered =
    length-marks-more h m ∙ ap (λ (k : ℕ). length (marks h) + k)
    (length-map m.delivered (λ (d : Delivered). d.mark)) in
    rw (
      length_push h m,
      frames-before-more h m,
      delivered,
      count-marks-more is_ok h m,
      count-marks-more is_fixed h m,
      count-marks-more is_bad h m,
      alarms-more s h m,
      fullest-more h m,
    ) refl
