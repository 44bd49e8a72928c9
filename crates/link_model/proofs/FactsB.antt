-- 8b/10b lanes meet the facts of a kind of lane.
use Rattle.std.proofs.Common.{◌≡◌, ◌⊎◌, ℕ, ◌*◌, ◌≤◌, true, List, [], ◌∷◌, ◌++◌, length, None, inl, inr, refl, sym, subst, ◌∙◌}
use Rattle.std.proofs.lemmas.Bool.{cond-true}
use Rattle.link_params.specs.declared.fields.Params.{Params}
use Rattle.link_params.specs.declared.fields.Timing.{Timing}
use Rattle.link_params.specs.Lanes.{Taken}
use Rattle.link_params.specs.Laws.{is_b}
use Rattle.link_params.specs.Numbers.{period, width}
use Rattle.lane_b.specs.Received.{entries_b, lanes_b}
use Rattle.lane_b.specs.kept.Receivers.{AreTens}
use Rattle.lane_b.proofs.LaneEntries as b
use Rattle.link_model.proofs.KindFacts.{AreEntries, AreTicks, AreWords, IsUnstarted, KindFacts, StartedMore, StartsNow, lead}

words-ten : (taken : List Taken) → AreWords 10 taken → AreTens taken
words-ten [] all = tt
words-ten (t ∷ ts) all = (all.0, words-ten ts all.1)

unstarted-b : (p : Params) (t : Timing) (lane : ℕ) (taken : List Taken)
    → b.IsUnstarted p t lane taken → IsUnstarted lanes_b p t lane taken
unstarted-b p t lane taken u = record { started = u.started; entries = u.entries }

starts-b : (p : Params) (t : Timing) (lane : ℕ) (taken : List Taken) (w : Taken)
    → b.StartsNow p t lane taken w → StartsNow lanes_b p t lane taken w
starts-b p t lane taken w s =
    record { started = s.started; armed = s.armed; entry = s.entry; entries = s.entries }

more-b : (p : Params) (t : Timing) (lane : ℕ) (taken : List Taken) (w : Taken) (f : ℕ)
    → b.StartedMore p t lane taken w f → StartedMore lanes_b p t lane taken w f
more-b p t lane taken w f m = record {
  started = m.started;
  entry = m.entry;
  inside = m.inside;
  outside_before = m.outside_before;
  outside = m.outside;
}

module _ (p : Params) (t : Timing) (mode : is_b p.mode ≡ true) where
  ten : width p ≡ 10
  ten = rw mode refl

  tens : (taken : List Taken) → AreTicks (width p) taken → AreTens taken
  tens taken ticks = words-ten taken (let all : AreWords 10 taken = rw ten at ticks.words in all)

  next-unstarted : (lane : ℕ) (taken : List Taken) (w : Taken) → AreTicks (width p) taken
      → length w.word ≡ width p → b.started_b p t lane taken ≡ None
      → IsUnstarted lanes_b p t lane (taken ++ w ∷ []) ⊎ StartsNow lanes_b p t lane taken w
  next-unstarted lane taken w ticks size none = elim
      (b.next-unstarted taken w (tens taken ticks) (size ∙ ten) p t lane none) [
        | inl u ↦ inl (unstarted-b p t lane (taken ++ w ∷ []) u)
        | inr s ↦ inr (starts-b p t lane taken w s)
      ]

  lead-b : lead p ≡ 4 * period p
  lead-b = cond-true (is_b p.mode) (4 * period p) 0 mode

  entries-are : (lane : ℕ) (taken : List Taken) → AreEntries p (entries_b p t lane taken)
  entries-are lane taken =
      let a = b.are-entries p t lane taken in
      record {
        placed = a.placed;
        cells = a.cells;
        are = a.are;
        whole = elim a.whole [ inl none ↦ inl none | inr all ↦ inr (all ∙ sym lead-b) ];
        few = subst (λ n. a.placed ≤ n) (sym lead-b) a.few;
      }

  pub facts-b : KindFacts lanes_b p t
  facts-b = record {
    nothing = λ lane. unstarted-b p t lane [] (b.unstarted-nothing p t lane);
    empty = λ lane taken ticks none. b.no-entries p t lane taken (tens taken ticks) none;
    unstarted = λ lane taken w ticks size on none. next-unstarted lane taken w ticks size none;
    started = λ lane taken w f ticks size on some. more-b p t lane taken w f
        (b.next-started taken w (tens taken ticks) (size ∙ ten) p t lane f some);
    are = entries-are;
  }
