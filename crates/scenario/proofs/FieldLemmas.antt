-- Facts on the fields of a record.
use Rattle.std.proofs.Common.{◌≡◌, ℕ, zero, suc, List, [], ◌∷◌, Some, None, map, refl, ap}
use Rattle.csv.specs.Records.{field_at}
use Rattle.scenario.specs.Text.{Text, stripped}
use Rattle.scenario.specs.Reads.{field}

pub field-Some : (fs : List Text) (i : ℕ) (f : Text) → Some f ≡ field_at fs i
    → stripped f ≡ field (map stripped fs) i
unfolding field_at
field-Some [] i f e = cc e
field-Some (x ∷ xs) zero f e = let same : f ≡ x = cc e in ap stripped same
field-Some (x ∷ xs) (suc i) f e = field-Some xs i f e

pub field-None : (fs : List Text) (i : ℕ) → None ≡ field_at fs i → [] ≡ field (map stripped fs) i
unfolding field_at
field-None [] i e = refl
field-None (x ∷ xs) zero e = cc e
field-None (x ∷ xs) (suc i) e = field-None xs i e
