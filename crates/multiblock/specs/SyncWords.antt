-- Sync words: the 32 sync bits of a multiblock, sync bit 0 first (JESD204C.1, 64b/66b link layer,
-- sync word; both layouts are this project's own).
-- Code: shifts of a u32, whose bit 31 is sync bit 0.
use Rattle.std.specs.Prelude.{ℕ, ◌==◌, Bool, true, false, not, ◌&&◌, List, [], ◌∷◌, map, drop, if◌then◌else◌}
use Rattle.std.specs.Int.{bit_at}
use Rattle.jesd_base.specs.Bits.{add, value}
use Rattle.link_params.specs.declared.fields.Mode.{Mode}
use Rattle.link_params.specs.declared.fields.Mode.TheVariants.{B, CCrc, CFec}
use Rattle.multiblock.specs.declared.sync_read.SyncRead.{SyncRead}

-- what a sync bit carries: a bit of the check or of the command by its number, the end bit, or always the same
pub data Carried : Type 0 where
  Check : ℕ → Carried
  Cmd : ℕ → Carried
  End : Carried
  Always : Bool → Carried

-- the five bits that each sync word ends in
unfoldable pub pilot : List Bool
pilot = false ∷ false ∷ false ∷ false ∷ true ∷ []

-- what the sync bits carry, sync bit 0 first
unfoldable pub sync_form : Mode → List Carried
sync_form B = []
sync_form CCrc =
    Check 11 ∷ Check 10 ∷ Check 9 ∷ Always true ∷ Check 8 ∷ Check 7 ∷ Check 6 ∷ Always true
    ∷ Check 5 ∷ Check 4 ∷ Check 3 ∷ Always true ∷ Check 2 ∷ Check 1 ∷ Check 0 ∷ Always true
    ∷ Cmd 6 ∷ Cmd 5 ∷ Cmd 4 ∷ Always true ∷ Cmd 3 ∷ Always true ∷ End ∷ Always true
    ∷ Cmd 2 ∷ Cmd 1 ∷ Cmd 0 ∷ map Always pilot
sync_form CFec =
    Check 25 ∷ Check 24 ∷ Check 23 ∷ Check 22 ∷ Check 21 ∷ Check 20 ∷ Check 19 ∷ Check 18
    ∷ Check 17 ∷ Check 16 ∷ Check 15 ∷ Check 14 ∷ Check 13 ∷ Check 12 ∷ Check 11 ∷ Check 10
    ∷ Check 9 ∷ Check 8 ∷ Check 7 ∷ Check 6 ∷ Check 5 ∷ Check 4 ∷ End
    ∷ Check 3 ∷ Check 2 ∷ Check 1 ∷ Check 0 ∷ map Always pilot

-- the sync bit that carries this, for a check, a command and an end bit
abbrev pub carried_bit : ℕ → ℕ → Bool → Carried → Bool
carried_bit check cmd end (Check k) = bit_at check k == 1
carried_bit check cmd end (Cmd k) = bit_at cmd k == 1
carried_bit check cmd end End = end
carried_bit check cmd end (Always b) = b

-- the sync word of a check, a command and an end bit
unfoldable pub sync_word : Mode → ℕ → ℕ → Bool → List Bool
sync_word mode check cmd end = map (carried_bit check cmd end) (sync_form mode)

abbrev pub is_check : Carried → Bool
is_check (Check k) = true
is_check (Cmd k) = false
is_check End = false
is_check (Always b) = false

abbrev pub is_cmd : Carried → Bool
is_cmd (Check k) = false
is_cmd (Cmd k) = true
is_cmd End = false
is_cmd (Always b) = false

abbrev pub is_end : Carried → Bool
is_end (Check k) = false
is_end (Cmd k) = false
is_end End = true
is_end (Always b) = false

-- the items at those places of a form that pass a test
unfoldable pub carriers : {A : Type 0} → (Carried → Bool) → List Carried → List A → List A
carriers test [] xs = []
carriers test (c ∷ cs) [] = []
carriers test (c ∷ cs) (x ∷ xs) = let more = carriers test cs xs in if test c then x ∷ more else more

-- the two lists of bits are one
unfoldable pub same_bits : List Bool → List Bool → Bool
same_bits [] [] = true
same_bits [] (y ∷ ys) = false
same_bits (x ∷ xs) [] = false
same_bits (x ∷ xs) (y ∷ ys) = not (add x y) && same_bits xs ys

-- what a receiver reads in a sync word; under FEC there are no command bits, and the command reads 0
unfoldable pub read_sync : Mode → List Bool → SyncRead
read_sync mode word = record {
  check = value (carriers is_check (sync_form mode) word);
  cmd = value (carriers is_cmd (sync_form mode) word);
  end = same_bits (carriers is_end (sync_form mode) word) (true ∷ []);
  pilot = same_bits (drop 27 word) pilot;
}
