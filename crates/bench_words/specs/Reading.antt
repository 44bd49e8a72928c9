-- What the words of the command line say: read from left to right into items, and the items into
-- what is asked for (this project's own).
-- Code: read with clap.
use Rattle.std.specs.Prelude.{ℕ, Bool, true, false, List, [], ◌∷◌, map, Option, Some, None, if◌then◌else◌, codes, length, take, drop, ◌&&◌, nat_lt, nat_le, option_and_then, option_map}
use Rattle.std.specs.Str.{bytes_eq}
use Rattle.std.specs.Char.{is_ascii_digit}
use Rattle.std.specs.Str.Parse.{digits_value}
use Rattle.std.specs.List.{list_all}
use Rattle.bench_words.specs.declared.asked.Task.{Task}
use Rattle.bench_words.specs.declared.asked.Task.TheVariants as task
use Rattle.bench_words.specs.declared.asked.Words.{Words}

abbrev pub Text : Type 0
Text = List ℕ

-- ---- items: a plain word, or an option with its value

pub data Slot : Type 0 where
  the_job : Slot
  the_workers : Slot
  the_number : Slot

pub record Item : Type 0 where
  pub slot : Slot
  pub text : Text

abbrev pub item : Slot → Text → Item
item slot text = record { slot = slot; text = text }

abbrev pub begins : Text → Text → Bool
begins front word = bytes_eq (take (length front) word) front

abbrev pub after : Text → Text → Text
after front word = drop (length front) word

abbrev pub is_dashed : Text → Bool
is_dashed word = begins (codes "-") word

abbrev pub is_longer_than_one : Text → Bool
is_longer_than_one [] = false
is_longer_than_one (x ∷ []) = false
is_longer_than_one (x ∷ y ∷ more) = true

abbrev pub before : Item → Option (List Item) → Option (List Item)
before first rest = option_map (λ items. first ∷ items) rest

abbrev pub plain_items : List Text → List Item
plain_items = map (item the_job)

-- the items of the words, where an option may wait for its value; None where a word is refused or the last value is missing
unfoldable pub items : Option Slot → List Text → Option (List Item)
items None [] = Some []
items (Some option) [] = None
items (Some option) (word ∷ words) =
    if is_dashed word then None else before (item option word) (items None words)
items None (word ∷ words) =
    if bytes_eq word (codes "--") then Some (plain_items words)
    else if bytes_eq word (codes "--workers") then items (Some the_workers) words
    else if bytes_eq word (codes "--number") then items (Some the_number) words
    else if begins (codes "--workers=") word then before (item the_workers (after (codes "--workers=") word)) (items None words)
    else if begins (codes "--number=") word then before (item the_number (after (codes "--number=") word)) (items None words)
    else if is_dashed word && is_longer_than_one word then None
    else before (item the_job word) (items None words)

-- ---- what the items ask for

abbrev pub same_slot : Slot → Slot → Bool
same_slot the_job the_job = true
same_slot the_workers the_workers = true
same_slot the_number the_number = true
same_slot _ _ = false

-- the texts of a slot, in order
unfoldable pub texts : Slot → List Item → List Text
texts slot [] = []
texts slot (first ∷ rest) = if same_slot slot first.slot then first.text ∷ texts slot rest else texts slot rest

abbrev pub task_named : Text → Option Task
task_named word =
    if bytes_eq word (codes "map") then Some task.Map
    else if bytes_eq word (codes "unmap") then Some task.Unmap
    else if bytes_eq word (codes "run") then Some task.Run
    else if bytes_eq word (codes "gen") then Some task.Gen
    else None

-- exactly one plain word
abbrev pub task_of : List Text → Option Task
task_of [] = None
task_of (word ∷ []) = task_named word
task_of (word ∷ second ∷ more) = None

-- 1 to 10 decimal digits
abbrev pub is_numeral : Text → Bool
is_numeral text = nat_lt 0 (length text) && (nat_le (length text) 10 && list_all is_ascii_digit text)

abbrev pub within : ℕ → ℕ → ℕ → Option ℕ
within low high n = if nat_le low n && nat_le n high then Some n else None

-- a number from low to high
abbrev pub number_of : ℕ → ℕ → Text → Option ℕ
number_of low high text = if is_numeral text then within low high (digits_value 10 text) else None

-- at most one value
abbrev pub setting : ℕ → ℕ → ℕ → List Text → Option ℕ
setting low high default [] = Some default
setting low high default (text ∷ []) = number_of low high text
setting low high default (text ∷ second ∷ more) = None

-- all three, or nothing
abbrev pub joined : Option Task → Option ℕ → Option ℕ → Option Words
joined (Some t) (Some w) (Some n) = Some (record { task = t; workers = w; number = n })
joined _ _ _ = None

abbrev pub asked : List Text → List Text → List Text → Option Words
asked jobs workers numbers = joined (task_of jobs) (setting 1 32 1 workers) (setting 0 4294967295 1 numbers)

abbrev pub asked_by : List Item → Option Words
asked_by all = asked (texts the_job all) (texts the_workers all) (texts the_number all)

-- what the words ask for, None where they are refused
abbrev pub asked_by_words : List Text → Option Words
asked_by_words words = option_and_then asked_by (items None words)
