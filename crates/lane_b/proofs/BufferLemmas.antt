-- The entries that wait in the buffer.
use Rattle.std.proofs.Common.{◌≡◌, ℕ, zero, suc, ◌+◌, ◌-◌, ◌≤◌, List, [], ◌∷◌, ◌++◌, length, drop, get_or, Some, None, refl, sym, ◌∙◌, ap, arith, length-append}
use Rattle.std.proofs.Math.Seq.{drop-append-le, drop-drop}
use Rattle.std.proofs.lemmas.List.{get_or-drop}
use Rattle.link_params.specs.declared.cells.LaneCell.{LaneCell}
use Rattle.link_params.specs.Lanes.{Entry, Placed, Held}
use Rattle.lane_b.specs.kept.Gives.{given, WaitsFor, Wait, AreInOrder, Holds, ComesInOrder}

-- ---- an entry comes

wait-append : (es : List Entry) (cs : List LaneCell) (e : Entry) (c : LaneCell) → Wait es cs → WaitsFor e c → Wait (es ++ e ∷ []) (cs ++ c ∷ [])
wait-append [] [] e c w h = (h, tt)
wait-append [] (d ∷ cs) e c w h = absurd w
wait-append (x ∷ es) [] e c w h = absurd w
wait-append (x ∷ es) (d ∷ cs) e c w h = (w.0, wait-append es cs e c w.1 h)

in_order-held : (es : List Entry) (n : ℕ) (c : LaneCell) → AreInOrder n es → AreInOrder n (es ++ Held c ∷ [])
in_order-held [] zero c o = tt
in_order-held [] (suc n) c o = absurd o
in_order-held (Placed ∷ es) zero c o = absurd o
in_order-held (Placed ∷ es) (suc n) c o = in_order-held es n c o
in_order-held (Held d ∷ es) zero c o = in_order-held es zero c o
in_order-held (Held d ∷ es) (suc n) c o = absurd o

in_order-placed : (es : List Entry) (n : ℕ) → AreInOrder n es → AreInOrder (length es) es → AreInOrder (suc n) (es ++ Placed ∷ [])
in_order-placed [] zero o all = tt
in_order-placed [] (suc n) o all = absurd o
in_order-placed (Placed ∷ es) zero o all = absurd o
in_order-placed (Placed ∷ es) (suc n) o all = in_order-placed es n o all
in_order-placed (Held d ∷ es) n o all = absurd all

all-drop : (es : List Entry) (k : ℕ) → AreInOrder (length es) es → AreInOrder (length (drop k es)) (drop k es)
all-drop es zero all = all
all-drop [] (suc k) all = tt
all-drop (Placed ∷ es) (suc k) all = all-drop es k all
all-drop (Held d ∷ es) (suc k) all = absurd all

holds-more : (entries : List Entry) (placed more gave : ℕ) (cells : List LaneCell) (c : LaneCell) (e : Entry) → Holds entries placed cells gave → WaitsFor e c
    → AreInOrder more (drop gave entries ++ e ∷ []) → Holds (entries ++ e ∷ []) more (cells ++ c ∷ []) gave
holds-more entries placed more gave cells c e h waits order =
    let within = h.within in
    let count = h.count in
    let l = length-append entries (e ∷ []) in
    let m = length-append cells (c ∷ []) in
    let d = drop-append-le gave entries (e ∷ []) h.within in
    record {
      within = omega arith;
      count = omega arith;
      wait = rw d (wait-append (drop gave entries) cells e c h.wait waits);
      in_order = rw d order;
    }

pub holds-cell : (entries : List Entry) (placed gave : ℕ) (cells : List LaneCell) (c : LaneCell) (e : Entry) → Holds entries placed cells gave → Some c ≡ given e
    → Holds (entries ++ e ∷ []) placed (cells ++ c ∷ []) gave
holds-cell entries placed gave cells c Placed h is = cc
holds-cell entries placed gave cells c (Held d) h is =
    let same : c ≡ d = cc in
    holds-more entries placed placed gave cells c (Held d) h same (in_order-held (drop gave entries) placed d h.in_order)

pub holds-place : (entries : List Entry) (placed gave : ℕ) (cells : List LaneCell) (c : LaneCell) (e : Entry) → Holds entries placed cells gave → None ≡ given e
    → ComesInOrder entries e → Holds (entries ++ e ∷ []) (placed + 1) (cells ++ c ∷ []) gave
holds-place entries placed gave cells c (Held d) h is all = cc
holds-place entries placed gave cells c Placed h is all =
    let s : placed + 1 ≡ suc placed = omega arith in
    let order = in_order-placed (drop gave entries) placed h.in_order (all-drop entries gave all) in
    holds-more entries placed (placed + 1) gave cells c Placed h tt (rw s order)

-- ---- an entry is given

-- the oldest entry, and what waits after it
pub record Oldest (entries : List Entry) (placed : ℕ) (cells : List LaneCell) (gave : ℕ) (e : Entry) : Type 0 where
  pub is : get_or entries gave Placed ≡ e
  pub rest : Holds entries placed cells (gave + 1)

oldest : (entries es : List Entry) (e : Entry) (placed gave : ℕ) (c : LaneCell) (cells : List LaneCell) → drop gave entries ≡ e ∷ es → gave ≤ length entries
    → length (c ∷ cells) ≡ length entries - gave → Wait es cells → AreInOrder placed es → Oldest entries placed cells gave e
oldest entries es e placed gave c cells h within count wait order =
    let z : gave + 0 ≡ gave = omega arith in
    let after : drop (gave + 1) entries ≡ es = sym (drop-drop 1 gave entries) ∙ ap (drop 1) h in
    record {
      is = ap (λ n. get_or entries n Placed) (sym z) ∙ sym (get_or-drop gave entries 0 Placed) ∙ ap (λ xs. get_or xs 0 Placed) h;
      rest = record { within = omega arith; count = omega arith; wait = rw after wait; in_order = rw after order };
    }

place-first : (entries rest : List Entry) (placed gave : ℕ) (c : LaneCell) (cells : List LaneCell) → drop gave entries ≡ rest → gave ≤ length entries
    → length (c ∷ cells) ≡ length entries - gave → Wait rest (c ∷ cells) → AreInOrder (suc placed) rest → Oldest entries placed cells gave Placed
place-first entries [] placed gave c cells h within count wait order = absurd order
place-first entries (Placed ∷ es) placed gave c cells h within count wait order = oldest entries es Placed placed gave c cells h within count wait.1 order
place-first entries (Held d ∷ es) placed gave c cells h within count wait order = absurd order

cell-first : (entries rest : List Entry) (gave : ℕ) (c : LaneCell) (cells : List LaneCell) → drop gave entries ≡ rest → gave ≤ length entries
    → length (c ∷ cells) ≡ length entries - gave → Wait rest (c ∷ cells) → AreInOrder 0 rest → Oldest entries 0 cells gave (Held c)
cell-first entries [] gave c cells h within count wait order = absurd wait
cell-first entries (Placed ∷ es) gave c cells h within count wait order = absurd order
cell-first entries (Held d ∷ es) gave c cells h within count wait order =
    oldest entries es (Held c) 0 gave c cells (h ∙ ap (λ k. Held k ∷ es) (sym wait.0)) within count wait.1 order

pub oldest-place : (entries : List Entry) (placed gave : ℕ) (c : LaneCell) (cells : List LaneCell) → Holds entries (suc placed) (c ∷ cells) gave
    → Oldest entries placed cells gave Placed
oldest-place entries placed gave c cells h = place-first entries (drop gave entries) placed gave c cells refl h.within h.count h.wait h.in_order

pub oldest-cell : (entries : List Entry) (gave : ℕ) (c : LaneCell) (cells : List LaneCell) → Holds entries 0 (c ∷ cells) gave → Oldest entries 0 cells gave (Held c)
oldest-cell entries gave c cells h = cell-first entries (drop gave entries) gave c cells refl h.within h.count h.wait h.in_order
