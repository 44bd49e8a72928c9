-- What clap's rows hold, slot by slot.
use Rattle.std.proofs.Common.{◌≡◌, ◌∙◌, Bool, true, false, List, [], ◌∷◌, ◌++◌, Option, Some, None, refl, ap, codes, option_map}
use Rattle.std.specs.Prelude.{find, is_some}
use Rattle.std.specs.Option.{option_or}
use Rattle.std.specs.Str.{bytes_eq}
use Rattle.std.proofs.lemmas.List.Folds.{find-append}
use Rattle.clap.specs.Walk.{Text, Row, at_row, has_row, with_values, without, more_values}
use Rattle.clap.specs.declared.builder.value_parser.Reading.TheVariants.{AsWritten}
use Rattle.clap.specs.declared.parser.matches.ValueSource.TheVariants.{CommandLine}
use Rattle.bench_words.specs.Reading.{Slot, the_job, the_workers, the_number}
use Rattle.bench_words.specs.kept.Clap.{Given}

abbrev pub id_of : Slot → Text
id_of the_job = codes "job"
id_of the_workers = codes "workers"
id_of the_number = codes "number"

abbrev pub at : Given → Slot → Option Text
at g the_job = g.job
at g the_workers = g.workers
at g the_number = g.number

abbrev pub put : Given → Slot → Text → Given
put g the_job v = record g { job = Some v }
put g the_workers v = record g { workers = Some v }
put g the_number v = record g { number = Some v }

abbrev pub row : Text → Text → Row
row id v = record { id = id; values = v ∷ []; count = None; source = Some CommandLine; reading = AsWritten }

abbrev pub row_at : Text → List Row → Option Row
row_at id rows = find (λ r. bytes_eq r.id id) rows

pub record Holds (rows : List Row) (g : Given) : Type 0 where
  pub found : (slot : Slot) → row_at (id_of slot) rows ≡ option_map (row (id_of slot)) (at g slot)

pub has_found : (id : Text) (rows : List Row) → has_row id rows ≡ is_some (row_at id rows)
has_found id [] = refl
has_found id (r ∷ rows) = go (bytes_eq r.id id) refl (has_found id rows)
  where
    go : (b : Bool) → bytes_eq r.id id ≡ b → has_row id rows ≡ is_some (row_at id rows) → has_row id (r ∷ rows) ≡ is_some (row_at id (r ∷ rows))
    go true e rest = rw e refl
    go false e rest = rw e rest

pub has : (rows : List Row) (g : Given) → Holds rows g → (slot : Slot) → (o : Option Text) → at g slot ≡ o → has_row (id_of slot) rows ≡ is_some o
has rows g h slot None e = has_found (id_of slot) rows ∙ ap is_some (h.found slot ∙ ap (option_map (row (id_of slot))) e)
has rows g h slot (Some v) e = has_found (id_of slot) rows ∙ ap is_some (h.found slot ∙ ap (option_map (row (id_of slot))) e)

-- an id that is not there is appended
appended : (id : Text) (change : Row → List Row) (missing rows : List Row) → has_row id rows ≡ false → at_row id change missing rows ≡ rows ++ missing
appended id change missing [] e = refl
appended id change missing (r ∷ rows) e = go (bytes_eq r.id id) refl e (appended id change missing rows)
  where
    go : (b : Bool) → bytes_eq r.id id ≡ b → has_row id (r ∷ rows) ≡ false → (has_row id rows ≡ false → at_row id change missing rows ≡ rows ++ missing)
        → at_row id change missing (r ∷ rows) ≡ r ∷ rows ++ missing
    go true t has next = let no : true ≡ false = rw t at has in cc
    go false t has next = let rest : has_row id rows ≡ false = rw t at has in rw t (ap (λ xs. r ∷ xs) (next rest))

abbrev pub with_row : Slot → Text → List Row → List Row
with_row slot v rows = with_values (id_of slot) AsWritten CommandLine (v ∷ []) (without (id_of slot) rows)

nothing_after : (rows : List Row) → rows ++ [] ≡ rows
nothing_after [] = refl
nothing_after (r ∷ rows) = ap (λ xs. r ∷ xs) (nothing_after rows)

with_row_is : (slot : Slot) (v : Text) (rows : List Row) → has_row (id_of slot) rows ≡ false → with_row slot v rows ≡ rows ++ row (id_of slot) v ∷ []
with_row_is slot v rows e =
    let same : without (id_of slot) rows ≡ rows = appended (id_of slot) (λ x. []) [] rows e ∙ nothing_after rows in
    ap (λ rs. with_values (id_of slot) AsWritten CommandLine (v ∷ []) rs) same ∙ appended (id_of slot) (more_values CommandLine (v ∷ [])) (row (id_of slot) v ∷ []) rows e

same_or : (o : Option Row) → option_or o None ≡ o
same_or None = refl
same_or (Some r) = refl

last_found : (slot other : Slot) (v : Text) (g : Given) → at g slot ≡ None
    → option_or (option_map (row (id_of other)) (at g other)) (row_at (id_of other) (row (id_of slot) v ∷ [])) ≡ option_map (row (id_of other)) (at (put g slot v) other)
last_found the_job the_job v g e = rw e refl
last_found the_workers the_workers v g e = rw e refl
last_found the_number the_number v g e = rw e refl
last_found the_job the_workers v g e = same_or _
last_found the_job the_number v g e = same_or _
last_found the_workers the_job v g e = same_or _
last_found the_workers the_number v g e = same_or _
last_found the_number the_job v g e = same_or _
last_found the_number the_workers v g e = same_or _

pub holds_more : (rows : List Row) (g : Given) (slot : Slot) (v : Text) → Holds rows g → at g slot ≡ None → Holds (with_row slot v rows) (put g slot v)
holds_more rows g slot v h e = record {
  found = λ other.
      ap (row_at (id_of other)) (with_row_is slot v rows (has rows g h slot None e))
      ∙ find-append (λ r. bytes_eq r.id (id_of other)) rows (row (id_of slot) v ∷ [])
      ∙ ap (λ o. option_or o (row_at (id_of other) (row (id_of slot) v ∷ []))) (h.found other)
      ∙ last_found slot other v g e;
}
