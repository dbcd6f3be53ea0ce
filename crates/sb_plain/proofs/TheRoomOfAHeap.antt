-- A heap in a small store: rows of it may want more pages from the 28th on, and bytes of the log from the eighth insert of a transaction on.
use Rattle.std.specs.Prelude.{◌≡◌, refl, ℕ, ◌+◌, ◌*◌, nat_le, nat_lt, Bool, true, false, codes, List, [], ◌∷◌, map}
use Rattle.std.specs.List.{range_with_len}
use Rattle.std.specs.Int.{to_be_bytes, w64}
use Rattle.sb_relation.specs.Db.{Db, int_column}
use Rattle.sb_fold.specs.Need.{need, at_rest}
use Rattle.sb_plain.specs.declared.command.Command.TheVariants as command
use Rattle.sb_plain.specs.State.{spent_in}
use Rattle.sb_plain.proofs.Scripts.{Asked, ask, after, start, no_extensions, int}

abbrev heap_of : ℕ → Db
heap_of n = (codes "t", record { method = 1; schema = int_column (codes "k") ∷ []; key = []; rows = map (λ i. (to_be_bytes w64 i, int i ∷ [])) (range_with_len 0 n); attachments = [] }) ∷ []

abbrev may_be_full : ℕ → Bool
may_be_full n = nat_le 64 (1 + need no_extensions true (at_rest (heap_of n)))

not_with_27_rows : may_be_full 27 ≡ false
not_with_27_rows = refl

with_28_rows : may_be_full 28 ≡ true
with_28_rows = refl

with_248_rows : may_be_full 248 ≡ true
with_248_rows = refl

-- ---- the log, of 2,097,152 bytes
abbrev inserts : ℕ → List Asked
inserts n = map (λ i. ask (command.Insert (codes "t") (int i ∷ [])) [] (to_be_bytes w64 i ∷ []) []) (range_with_len 0 n)

abbrev began : List Asked
began = ask (command.Create (codes "t") 1 (int_column (codes "k") ∷ []) []) [] [] [] ∷ ask command.Begin [] [] [] ∷ []

abbrev spent_with : ℕ → ℕ
spent_with n = spent_in (after (after start began) (inserts n))

abbrev may_be_spent : ℕ → Bool
may_be_spent n = nat_lt 2097152 (2 * (12400 * spent_with n + 2048))

each_insert_costs_11 : spent_with 3 ≡ 33
each_insert_costs_11 = refl

not_with_7_inserts : may_be_spent 7 ≡ false
not_with_7_inserts = refl

with_8_inserts : may_be_spent 8 ≡ true
with_8_inserts = refl
