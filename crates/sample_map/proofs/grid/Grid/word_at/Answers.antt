use Rattle.std.proofs.Common.{◌≡◌, ℕ, ◌<◌, ◌≤◌, ◌*◌, ◌^◌, ◌-◌, ◌+◌, ◌∙◌, List, length, sym, arith, get_or}
use Rattle.std.proofs.Math.Pow.{pow_pos}
use Rattle.std.proofs.lemmas.Nat.Bits.{bit_at-zero}
use Rattle.sample_map.specs.kept.Groups.{Grouping}
use Rattle.sample_map.specs.kept.Grids.{sizes}
use Rattle.sample_map.proofs.BitLemmas.{behind-lt, cut-same}
use Rattle.sample_map.proofs.GroupLemmas.{group_bit-at, group_bit-behind, bits_of_word}
use Rattle.sample_map.proofs.grid.Grid.word_at.Goals as goal

-- a word with its tail bits fits
moved-lt : (v used width : ℕ) → v < 2 ^ used → used ≤ width → v * 2 ^ (width - used) < 2 ^ width
moved-lt v used width small fits =
    let p = pow_pos (width - used) in
    let e : used + (width - used) ≡ width = omega arith in
    let z : v * 2 ^ (width - used) + 0 < 2 ^ (used + (width - used)) = behind-lt v used (width - used) 0 small p in
    let b = rw e at z in
    omega arith

-- the word that is read has only used bits
read-lt : (words : List ℕ) (v group of i used : ℕ) → v ≡ get_or words (group * of + i) 0 → i < of → (group + 1) * of ≤ length words
    → ((r : ℕ) → r < length words → get_or words r 0 < 2 ^ used) → v < 2 ^ used
read-lt words v group of i used e lt fits below = rw e (below (group * of + i) (omega arith))

pub returns-then-i-self-clause-below : goal.returns-then-i-self-clause-below
returns-then-i-self-clause-below c =
    let used : ℕ = c.args.self.now.used in
    let width : ℕ = c.args.self.now.width in
    let v = read-lt c.args.words.now c.from.result c.args.group c.args.self.now.words c.args.i used c.from.ensures c.if-i-self.true c.requires.group c.requires.below in
    let lt = moved-lt c.from.result used width v (omega arith) in
    rw (cut-same (c.from.result * 2 ^ (width - used)) width 64 lt (omega arith)) lt

pub returns-then-i-self-clause-bits : goal.returns-then-i-self-clause-bits
returns-then-i-self-clause-bits c = λ b in_word.
    let used : ℕ = c.args.self.now.used in
    let width : ℕ = c.args.self.now.width in
    let v = read-lt c.args.words.now c.from.result c.args.group c.args.self.now.words c.args.i used c.from.ensures c.if-i-self.true c.requires.group c.requires.below in
    let lt = moved-lt c.from.result used width v (omega arith) in
    let g : Grouping = sizes c.args.self.now in
    let h = group_bit-at (sizes c.args.self.now) c.args.words.now c.args.group c.args.i b c.if-i-self.true in_word in
    let k = bits_of_word (sizes c.args.self.now) c.from.result b (omega arith) in_word in
    rw (cut-same (c.from.result * 2 ^ (width - used)) width 64 lt (omega arith), h, ← c.from.ensures) k

pub returns-else-i-self-clause-bits : goal.returns-else-i-self-clause-bits
returns-else-i-self-clause-bits c = λ b in_word.
    bit_at-zero (c.args.self.now.width - 1 - b) ∙ sym (group_bit-behind (sizes c.args.self.now) c.args.words.now c.args.group c.args.i b c.if-i-self.false)
