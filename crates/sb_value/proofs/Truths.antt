-- What truth values, orders, options and outcomes say, for the crates above. What std says already is only named again.
use Rattle.std.proofs.Common.{◌≡◌, Bool, true, false, true≢false, ◌&&◌, T, Option, Some, None, is_none, is_some, Ok, Err, is_lt, Ordering, Less, Equal, Greater, refl, sym, subst}
pub use Rattle.std.proofs.lemmas.Bool.{or_left, or_right, or_parts as or_false}
pub use Rattle.std.proofs.Math.Bool.{or-false as or_none, or-true as or_true, and-false as and_false}

-- ---- truth values
pub T-true : (b : Bool) → T b → b ≡ true
T-true true h = refl
T-true false h = absurd h

pub true-T : (b : Bool) → b ≡ true → T b
true-T b is = subst T (sym is) tt

-- both sides of a conjunction hold
pub T-parts : (a b : Bool) → T (a && b) → T a × T b
T-parts true b h = (tt, h)
T-parts false b h = absurd h

-- ---- orders
pub is_lt-less : (o : Ordering) → is_lt o ≡ true → o ≡ Less
is_lt-less Less is = refl
is_lt-less Equal is = absurd (cc)
is_lt-less Greater is = absurd (cc)

pub T-less : (o : Ordering) → T (is_lt o) → o ≡ Less
T-less o h = is_lt-less o (T-true (is_lt o) h)

-- ---- options and outcomes
pub is_none-none : {A : Type 0} (o : Option A) → is_none o ≡ true → o ≡ None
is_none-none None is = refl
is_none-none (Some x) is = absurd (true≢false (sym is))

pub is_some-none : {A : Type 0} (o : Option A) → is_some o ≡ false → o ≡ None
is_some-none None is = refl
is_some-none (Some x) is = absurd (true≢false is)

-- a success is no failure
pub ok_err : {T E A : Type 0} (x : T) (e : E) → Ok x ≡ Err e → A
ok_err x e is = absurd (cc)

-- something is not nothing
pub some_none : {T A : Type 0} (x : T) → Some x ≡ None → A
some_none x is = absurd (cc)
