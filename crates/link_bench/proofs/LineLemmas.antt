-- Pieces and lines.
use Rattle.std.proofs.Common.{◌≡◌, ℕ, zero, suc, ◌+◌, ◌-◌, ◌*◌, ◌/◌, ◌%◌, ◌<◌, ◌≤◌, ◌∙◌, List, [], ◌∷◌, ◌++◌, length, take, drop, get_or, sym, ap, get_or-drop, get_or-take, arith}
use Rattle.std.proofs.Math.Seq.{drop-drop}
use Rattle.std.proofs.Math.Nat.{mul-le-mul_right}
use Rattle.std.proofs.lemmas.List.{flat_map_more, drop_all, take_all, append-nil}
use Rattle.std.specs.List.{flat_map}
use Rattle.link_bench.specs.Lines.{pieces_of, Each}

-- one piece more
pub pieces-more : {A : Type 0} (n m : ℕ) (xs : List A) → pieces_of n (m + 1) xs ≡ pieces_of n m xs
    ++ take n (drop (m * n) xs) ∷ []
unfolding pieces_of
pieces-more n zero xs = let e : 0 * n ≡ 0 = omega arith in ap (λ k. take n (drop k xs) ∷ []) (sym e)
pieces-more {A} n (suc m) xs =
    let e : n + m * n ≡ suc m * n = omega arith in
    let d : drop (m * n) (drop n xs) ≡ drop (suc m * n) xs = drop-drop (m * n) n xs
    ∙ ap (λ k. drop k xs) e in
    let more : pieces_of n (m + 1) (drop n xs) ≡ pieces_of n m (drop n xs) ++ take n (drop (suc m * n) xs)
    ∷ [] =
    pieces-more n m (drop n xs) ∙ ap (λ x. pieces_of n m (drop n xs) ++ take n x ∷ []) d in
    let k : suc m + 1 ≡ suc (m + 1) = omega arith in
    rw k (ap {B = List (List A)} (λ r. take n xs ∷ r) more)

-- one item more on each side
pub Each-more : {A B : Type 0} (R : A → B → Type 0) (xs : List A) (ys : List B) (x : A) (y : B)
    → Each R xs ys → R x y → Each R (xs ++ x ∷ []) (ys ++ y ∷ [])
Each-more R [] [] x y e r = (r, tt)
Each-more R (a ∷ xs) (b ∷ ys) x y e r = (e.0, Each-more R xs ys x y e.1 r)
Each-more R [] (b ∷ ys) x y e r = absurd e
Each-more R (a ∷ xs) [] x y e r = absurd e

-- one frame more, and its line behind the text
pub frames-more : {A : Type 0} (R : List A → List ℕ → Type 0) (line : List ℕ → List ℕ) (n m : ℕ)
    (xs : List A) (old new y : List ℕ)
    → ((frames : List (List ℕ)) × Each R (pieces_of n m xs) frames × (old ≡ flat_map line frames))
    → R (take ((m + 1) * n - m * n) (drop (m * n) xs)) y → new ≡ old ++ line y
    → (frames : List (List ℕ)) × Each R (pieces_of n (m + 1) xs) frames × (new ≡ flat_map line frames)
frames-more R line n m xs old new y (frames, each, is) r added =
    let e : (m + 1) * n - m * n ≡ n = omega arith in
    let piece : R (take n (drop (m * n) xs)) y = rw e at r in (
      frames ++ y ∷ [],
      rw (pieces-more n m xs)
          (Each-more R (pieces_of n m xs) frames (take n (drop (m * n) xs)) y each piece),
      added ∙ ap (λ t. t ++ line y) is ∙ flat_map_more line [] frames y,
    )

-- a slice of words keeps below the limit
pub slice-below : (xs : List ℕ) (n k limit r : ℕ)
    → ((i : ℕ) → i < length xs → get_or xs i 0 < limit) → r < k → n + r < length xs
    → get_or (take k (drop n xs)) r 0 < limit
slice-below xs n k limit r below lt within =
    rw (get_or-take k (drop n xs) r 0 lt, get_or-drop n xs r 0) (below (n + r) within)

-- a slice that was written back to its vector
pub written-back : (len : ℕ) (out items : List ℕ) → length items ≡ len → length out ≡ length items
    → take len (out ++ drop (length out) items) ≡ out
written-back len out items is same =
    let e : drop (length out) items ≡ [] = drop_all (length out) items (omega arith) in
    ap (λ d. take len (out ++ d)) e ∙ ap (take len) (append-nil out)
    ∙ take_all len out (omega arith)

-- frames that are counted by division lie within
pub frame-within : (frame size len : ℕ) → 0 < size → frame < len / size → (frame + 1) * size ≤ len
frame-within frame size len some lt =
    let m : (frame + 1) * size ≤ len / size * size =
    mul-le-mul_right size (let h : frame + 1 ≤ len / size = omega arith in h) in
    let e : size * (len / size) + len % size ≡ len = omega arith in
    omega arith
