-- Instances of the boxes that take turns.
use Rattle.std.proofs.Common.{◌≡◌, ℕ, ◌+◌, ◌≤◌, true, false, ◌==◌, nat_lt, [], Some, refl, sym, ◌∙◌, arith}
use Rattle.std.proofs.lemmas.Bool.{cond-false}
use Rattle.std.proofs.lemmas.Bool.Decides.{nat_tests}
use Rattle.sb_relation.specs.Fits.{method_fits}
use Rattle.sb_relation.specs.Foreign.{MethodRules}
use Rattle.sb_ctx.specs.declared.instance.Instance.{Instance}
use Rattle.sb_ctx.specs.Method.{Method, IsInstance}
use Rattle.sb_space_tests.specs.Scribes.{IsScribes}

-- a foreign method says itself that it keeps a relation without columns
foreign-fits : (box : MethodRules) (code : ℕ) → 1000 ≤ code → box.fits [] [] ≡ true → method_fits (Some box) code [] [] ≡ true
foreign-fits box code high fits =
    let two : code == 2 ≡ false = grind (arith, nat_tests, high) in
    let low : nat_lt code 1000 ≡ false = grind (arith, nat_tests, high) in
    cond-false (code == 2) _ _ two ∙ cond-false (nat_lt code 1000) _ _ low ∙ fits

pub IsInstance-scribe : (m : Method) (number : ℕ) (inst : Instance) → m.rules.code ≡ 1000 + number → m.rules.durable ≡ true → m.rules.fits [] [] ≡ true → IsScribes number inst → IsInstance m inst
IsInstance-scribe m number inst code durable fits is = record {
  code = is.code ∙ sym code;
  durable = is.durable ∙ sym durable;
  desc = is.desc;
  owned = is.owned;
  may = record { named = rw (is.schema, is.key) refl; fits = rw (is.schema, is.key) (foreign-fits m.rules m.rules.code (omega (arith, code)) fits) };
}
