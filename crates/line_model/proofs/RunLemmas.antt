-- A run of words.
use Rattle.std.proofs.Common.{◌≡◌, ℕ, ◌+◌, ◌^◌, ◌<◌, ◌≤◌, Bool, List, length, get_or, set, ◌++◌, take, refl, sym, ◌∙◌, ap, ap₂, subst, inl, inr, arith}
use Rattle.std.specs.List.{flat_map}
use Rattle.std.proofs.lemmas.Bool.{cases_lt}
use Rattle.std.proofs.lemmas.List.{append-nil, get_or-set_same, get_or-set_other, flat_map_more, take_more}
use Rattle.jesd_base.specs.Bits.{bits}
use Rattle.line_model.specs.LineBits.{Settings, line_word}
use Rattle.line_model.specs.kept.Lines.{HasCarried, Kept}

-- what was put in after i words of so many bits
abbrev pub sent_after : ℕ → List Bool → List ℕ → ℕ → List Bool
sent_after width sent words i = sent ++ flat_map (bits width) (take i words)

-- the first i of these words were put in, and in their places stand those that were received
abbrev pub HasRun : ℕ → Kept → Kept → List ℕ → List ℕ → ℕ → Type 0
HasRun width old now words out i =
    (now.set ≡ old.set)
    × ((k : ℕ) → i ≤ k → get_or out k 0 ≡ get_or words k 0)
    × ((k : ℕ) → k < i → get_or out k 0 < 2 ^ width)
    × ((s : Settings) (sent : List Bool) → HasCarried old s sent
    → HasCarried now s (sent_after width sent words i))
    × ((s : Settings) (sent : List Bool) → HasCarried old s sent → (k : ℕ) → k < i
    → bits width (get_or out k 0)
    ≡ line_word width (sent_after width sent words (k + 1)) s.flips s.delay s.dead)

pub run-start : (width : ℕ) (old : Kept) (words : List ℕ) → HasRun width old old words words 0
run-start width old words = (
  refl,
  (λ k all. refl),
  (λ k none. omega arith),
  (λ s sent h.
      let P : List Bool → Type 0 = λ bs. HasCarried old s bs in
      subst P (sym (append-nil sent)) h),
  λ s sent h k none. absurd (omega arith),
)

-- what holds of each word before place i holds of each up to it, where it holds of the word that is
-- put there
each-more : (P : ℕ → ℕ → Type 0) (ws : List ℕ) (i w : ℕ)
    → ((k : ℕ) → k < i → P k (get_or ws k 0)) → i < length ws → P i w
    → (k : ℕ) → k < i + 1 → P k (get_or (set ws i w) k 0)
each-more P ws i w before within here k below = elim (cases_lt k i) [
  | inl less ↦ subst (P k) (sym (get_or-set_other ws i k w 0 (λ e. omega arith))) (before k less)
  | inr more ↦
      let e : i ≡ k = omega arith in
      subst (λ (j : ℕ). P j (get_or (set ws i w) j 0)) e
      (subst (P i) (sym (get_or-set_same ws i w 0 within)) here)
]

others : (words out : List ℕ) (i w : ℕ) → ((k : ℕ) → i ≤ k → get_or out k 0 ≡ get_or words k 0)
    → (k : ℕ) → i + 1 ≤ k → get_or (set out i w) k 0 ≡ get_or words k 0
others words out i w same k above =
    get_or-set_other out i k w 0 (λ e. omega arith) ∙ same k (omega arith)

bits-more : (width : ℕ) (sent : List Bool) (words : List ℕ) (i : ℕ) → i < length words
    → sent_after width sent words i ++ bits width (get_or words i 0)
    ≡ sent_after width sent words (i + 1)
bits-more width sent words i within =
    flat_map_more (bits width) sent (take i words) (get_or words i 0)
    ∙ ap (λ (ws : List ℕ). sent ++ flat_map (bits width) ws) (sym (take_more words i 0 within))

-- one word more, by what a tick says
pub run-more : (width : ℕ) (old now later : Kept) (words out : List ℕ) (i given w : ℕ)
    → old.set.width ≡ width → i < length words → length out ≡ length words
    → HasRun width old now words out i → given ≡ get_or out i 0
    → ((s : Settings) (sent : List Bool) → HasCarried now s sent → bits s.width w
    ≡ line_word s.width (sent ++ bits s.width given) s.flips s.delay s.dead)
    → w < 2 ^ now.set.width → later.set ≡ now.set
    → ((s : Settings) (sent : List Bool) → HasCarried now s sent
    → HasCarried later s (sent ++ bits s.width given))
    → HasRun width old later words (set out i w) (i + 1)
run-more width old now later words out i given w is within long so_far gives answer below same
    goes_on =
    let least : i ≤ i = omega arith in
    let inside : i < length out = omega arith in
    let wide : now.set.width ≡ width = ap (λ (s : Settings). s.width) so_far.0 ∙ is in
    let word : given ≡ get_or words i 0 = gives ∙ so_far.1 i least in (
      same ∙ so_far.0,
      others words out i w so_far.1,
      each-more (λ k x. x < 2 ^ width) out i w so_far.2 inside (rw wide at below),
      (λ s sent h.
          let P : List Bool → Type 0 = λ bs. HasCarried later s bs in
          let has = so_far.3 s sent h in
          let size : s.width ≡ width =
          sym (ap (λ (k : Settings). k.width) has.keeps_settings) ∙ wide in
          subst P (put s sent size word)
          (goes_on s (sent_after width sent words i) has)),
      λ s sent h.
          let has = so_far.3 s sent h in
          let size : s.width ≡ width =
          sym (ap (λ (k : Settings). k.width) has.keeps_settings) ∙ wide in
          let P : ℕ → ℕ → Type 0 = λ k x. bits width x
          ≡ line_word width (sent_after width sent words (k + 1)) s.flips s.delay s.dead in
          each-more P out i w (so_far.4 s sent h) inside
          (ap (λ (n : ℕ). bits n w) (sym size)
          ∙ answer s (sent_after width sent words i) has
          ∙ ap (λ (bs : List Bool). line_word s.width bs s.flips s.delay s.dead)
          (put s sent size word)
          ∙ ap (λ (n : ℕ). line_word n (sent_after width sent words (i + 1))
          s.flips s.delay s.dead) size),
    )
  where
    put : (s : Settings) (sent : List Bool) → s.width ≡ width → given ≡ get_or words i 0
        → sent_after width sent words i ++ bits s.width given ≡ sent_after width sent words (i + 1)
    put s sent size word =
        ap₂ {C = List Bool} (λ (n x : ℕ). sent_after width sent words i ++ bits n x) size word
        ∙ bits-more width sent words i within
