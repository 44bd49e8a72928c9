-- Facts on the fold over the records.
use Rattle.std.proofs.Common.{◌≡◌, ◌∙◌, ◌+◌, ℕ, List, [], ◌∷◌, ◌++◌, Result, Ok, Err, map, append_assoc, refl, sym, ap}
use Rattle.std.proofs.lemmas.List.{map-append, append-nil}
use Rattle.csv.specs.Reading.{Reached, AreRecords, default_config, strip_bom}
use Rattle.csv.specs.declared.parser.State.{State}
use Rattle.csv.specs.declared.parser.State.TheVariants as st
use Rattle.scenario.specs.declared.fault.Fault.{Fault}
use Rattle.scenario.specs.declared.kind.Job.{Job}
use Rattle.scenario.specs.Causes.{cause_number}
use Rattle.scenario.specs.Text.{Text, stripped}
use Rattle.scenario.specs.Reads.{Seen, bad_at, nothing, over, reads, step, ended}
use Rattle.scenario.specs.kept.Sound.{IsSound}
use Rattle.scenario.proofs.SoundLemmas.{step-sound}
use Rattle.scenario.proofs.RowLemmas.{records-begin, records-are}

abbrev pub texts : List (List (List ℕ)) → List (List Text)
texts rows = map (map stripped) rows

-- these records came first, and took the definition to this place
pub record Came (j : Job) (rows : List (List (List ℕ))) (n : ℕ) (seen : Seen) : Type 0 where
  pub goes_on : (more : List (List Text))
      → over j 0 (Ok nothing) (texts rows ++ more) ≡ over j n (Ok seen) more
  pub sound : IsSound seen

pub came-none : (j : Job) (seen : Seen) → seen ≡ nothing → Came j [] 0 seen
came-none j seen e = record {
  goes_on = λ more. ap (λ s. over j 0 (Ok s) more) (sym e);
  sound =
      rw e (refl, refl, (refl, refl, refl, refl, refl));
}

-- one record after those
behind : (rows : List (List (List ℕ))) (row : List (List ℕ)) (more : List (List Text))
    → texts (rows ++ row ∷ []) ++ more ≡ texts rows ++ map stripped row ∷ more
behind rows row more = ap (λ rs. rs ++ more) (map-append (map stripped) rows (row ∷ []))
    ∙ append_assoc (texts rows) (map stripped row ∷ []) more

after_row : (j : Job) (rows : List (List (List ℕ))) (row : List (List ℕ)) (n : ℕ) (seen : Seen)
    (due : Result Seen Fault) (more : List (List Text))
    → Came j rows n seen → step j seen (map stripped row) ≡ due
    → over j 0 (Ok nothing) (texts (rows ++ row ∷ []) ++ more) ≡ over j (n + 1) due more
unfolding over
after_row j rows row n seen due more came s =
    ap (over j 0 (Ok nothing)) (behind rows row more) ∙ came.goes_on (map stripped row ∷ more)
    ∙ ap (λ d. over j (n + 1) d more) s

pub came-more : (j : Job) (rows : List (List (List ℕ))) (row : List (List ℕ)) (n : ℕ)
    (seen next : Seen)
    → Came j rows n seen → step j seen (map stripped row) ≡ Ok next
    → Came j (rows ++ row ∷ []) (n + 1) next
came-more j rows row n seen next came s = record {
  goes_on = λ more. after_row j rows row n seen (Ok next) more came s;
  sound = step-sound j seen (map stripped row) next s came.sound;
}

-- a bad record ends it
pub reads-bad : (j : Job) (bytes : List ℕ) (rows : List (List (List ℕ))) (row : List (List ℕ))
    (n : ℕ) (seen : Seen) (fault : Fault) (s2 : State) (ys : List ℕ)
    → Came j rows n seen → step j seen (map stripped row) ≡ Err fault
    → Reached default_config st.StartRecord (strip_bom bytes) (rows ++ row ∷ []) s2 ys
    → reads j bytes ≡ Err (bad_at (n + 1) (cause_number fault.cause) fault.at)
unfolding reads over
reads-bad j bytes rows row n seen fault s2 ys came s reached =
    let (more, is) = records-begin default_config (strip_bom bytes) (rows ++ row ∷ []) s2 ys
    reached in
    ap (λ rs. over j 0 (Ok nothing) (texts rs)) is
    ∙ (ap (over j 0 (Ok nothing)) (map-append (map stripped) (rows ++ row ∷ []) more)
    ∙ after_row j rows row n seen (Err fault) (texts more) came s)

-- the end of the records
pub reads-end : (j : Job) (bytes : List ℕ) (rows : List (List (List ℕ))) (n : ℕ) (seen : Seen)
    → Came j rows n seen → AreRecords default_config st.StartRecord (strip_bom bytes) rows
    → reads j bytes ≡ ended n seen
unfolding reads over
reads-end j bytes rows n seen came are =
    ap (λ rs. over j 0 (Ok nothing) (texts rs))
    (sym (records-are default_config (strip_bom bytes) rows are))
    ∙ (ap (over j 0 (Ok nothing)) (sym (append-nil (texts rows))) ∙ came.goes_on [])
