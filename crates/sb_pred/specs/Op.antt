-- The signs of comparisons and their numbers.
use Rattle.std.specs.Prelude.{◌≡◌, ℕ, zero, suc, refl}
use Rattle.sb_pred.specs.declared.predicate.Op.{Op}
use Rattle.sb_pred.specs.declared.predicate.Op.TheVariants.{Eq, Ne, Lt, Le, Gt, Ge}

-- the number of a sign, from 1 in the order of the type
abbrev pub op_code : Op → ℕ
op_code Eq = 1
op_code Ne = 2
op_code Lt = 3
op_code Le = 4
op_code Gt = 5
op_code Ge = 6

-- the sign of a number
abbrev pub op_at : ℕ → Op
op_at (suc zero) = Eq
op_at (suc (suc zero)) = Ne
op_at (suc (suc (suc zero))) = Lt
op_at (suc (suc (suc (suc zero)))) = Le
op_at (suc (suc (suc (suc (suc zero))))) = Gt
op_at _ = Ge

pub op_at-op_code : (op : Op) → op_at (op_code op) ≡ op
op_at-op_code Eq = refl
op_at-op_code Ne = refl
op_at-op_code Lt = refl
op_at-op_code Le = refl
op_at-op_code Gt = refl
op_at-op_code Ge = refl
