-- The lines that the jobs `map` and `unmap` write.
-- Code: appended to one buffer, a lane or a word at a time.
use Rattle.std.specs.Prelude.{◌≡◌, ℕ, zero, suc, ◌*◌, ◌/◌, List, [], ◌∷◌, ◌++◌, length, take, drop, codes}
use Rattle.std.specs.List.{flat_map}
use Rattle.hex.specs.Hex.{encode_lower}
use Rattle.link_params.specs.declared.fields.Params.{Params}
use Rattle.scenario.specs.Digits.{hex_digits, word_digits}
use Rattle.sample_map.specs.Layout.{IsFrame, AreWords}

-- m pieces of n items, from the front on
unfoldable pub pieces_of : {A : Type 0} → ℕ → ℕ → List A → List (List A)
pieces_of n zero xs = []
pieces_of n (suc m) xs = take n xs ∷ pieces_of n m (drop n xs)

-- each item of one list goes with the item at its place in the other
abbrev pub Each : {A B : Type 0} → (A → B → Type 0) → List A → List B → Type 0
Each R [] [] = Unit {0}
Each R (x ∷ xs) (y ∷ ys) = R x y × Each R xs ys
Each R [] (y ∷ ys) = ⊥
Each R (x ∷ xs) [] = ⊥

-- `octets,H,H` with one H a lane, its F octets
abbrev pub octets_line : Params → List ℕ → List ℕ
octets_line p octets = codes "octets"
    ++ (flat_map (λ lane. 44 ∷ encode_lower lane) (pieces_of p.f p.l octets) ++ codes "\n")

-- `frame,W,W` with M·S words
abbrev pub frame_line : Params → List ℕ → List ℕ
frame_line p words = codes "frame"
    ++ (flat_map (λ w. 44 ∷ hex_digits (word_digits p) w) words ++ codes "\n")

-- the text of `map`: the octets line of each frame of words, in order
abbrev pub IsMapped : Params → List ℕ → List ℕ → Type 0
IsMapped p words text = let size = p.m * p.s in
    (frames : List (List ℕ)) × Each (IsFrame p) (pieces_of size (length words / size) words) frames
    × (text ≡ flat_map (octets_line p) frames)

-- the text of `unmap`: the frame line of the words of each frame's octets, in order
abbrev pub IsUnmapped : Params → List ℕ → List ℕ → Type 0
IsUnmapped p octets text = let size = p.l * p.f in
    (frames : List (List ℕ)) × Each (AreWords p) (pieces_of size (length octets / size) octets) frames
    × (text ≡ flat_map (frame_line p) frames)
