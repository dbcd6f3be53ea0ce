-- What holds of a call's result.
use Rattle.std.proofs.Common.{◌≡◌, Result, Ok, Err, OnOk, IfErr, sym, subst}
use Rattle.std.specs.Result.{IsErrAnd}

pub OnOk-map : {T E : Type 0} (result : Result T E) (P Q : Type 0) → (P → Q) → OnOk result P → OnOk result Q
OnOk-map (Ok x) P Q f has = f has
OnOk-map (Err e) P Q f has = tt

pub OnOk-both : {T E : Type 0} (result : Result T E) (P Q R : Type 0) → (P → Q → R) → OnOk result P → OnOk result Q → OnOk result R
OnOk-both (Ok x) P Q R f p q = f p q
OnOk-both (Err e) P Q R f p q = tt

pub OnOk-has : {T E : Type 0} (result : Result T E) (P : Type 0) → P → OnOk result P
OnOk-has (Ok x) P has = has
OnOk-has (Err e) P has = tt

pub IfErr-map : {T E : Type 0} (result : Result T E) (P Q : E → Type 0) → ((e : E) → P e → Q e) → IfErr result P → IfErr result Q
IfErr-map (Ok x) P Q f has = tt
IfErr-map (Err e) P Q f has = f e has

-- the error that a `?` hands on
pub IfErr-from : {T E : Type 0} (result : Result T E) (e : E) (P : E → Type 0) → IsErrAnd result (λ f. f ≡ e) → P e → IfErr result P
IfErr-from (Ok x) e P is has = tt
IfErr-from (Err f) e P is has = subst P (sym is) has
