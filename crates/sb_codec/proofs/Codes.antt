-- The ordered code keeps the order of values of one kind, and none of its codes begins another.
use Rattle.std.proofs.Common.{◌≡◌, ℕ, List, [], ◌∷◌, ◌++◌, map, refl, sym, ap, ◌∙◌}
use Rattle.std.specs.List.{AllByRecursion}
use Rattle.std.specs.Ordering.{ordering_then}
use Rattle.std.specs.declared.cmp.Ordering.{Ordering}
use Rattle.std.specs.declared.cmp.Ordering.TheVariants.{Less, Equal, Greater}
use Rattle.std.proofs.lemmas.Cmp.{tied_itself, nat_list_cmp_total}
use Rattle.std.proofs.lemmas.List.Elements.{recursion_from_All}
use Rattle.std.proofs.lemmas.Map.Lookups.{exact_bytes, exact_signed}
use Rattle.sb_value.specs.declared.value.Value.{Value}
use Rattle.sb_value.specs.declared.value.Value.TheVariants.{Int, Text}
use Rattle.sb_value.specs.Code.{flipped, value_code, ordered_code}
use Rattle.sb_value.specs.Fits.{kind_of}
use Rattle.sb_value.specs.Order.{bytes_cmp, value_cmp, tuple_cmp}
use Rattle.sb_codec.specs.Kinds.{IsInRange, IsProper}
use Rattle.sb_codec.specs.Laws.{KeepsOrder, OneList}
use Rattle.sb_bytes.proofs.Fronts.{slice_cmp-fronts}
use Rattle.sb_codec.proofs.Numbers.{nat_cmp-flipped, flipped-below}
use Rattle.sb_codec.proofs.Texts.{ended-code, slice_cmp-ended}

pub in_range : (v : Value) → IsProper v → IsInRange v
in_range (Int n) fits = fits
in_range (Text s) utf8 = tt

-- the order of two values of one kind, and then of what follows their codes
pub bytes_cmp-code : (v w : Value) (x y : List ℕ) → kind_of v ≡ kind_of w → IsInRange v → IsInRange w
    → bytes_cmp (value_code v ++ x) (value_code w ++ y) ≡ ordering_then (value_cmp v w) (bytes_cmp x y)
bytes_cmp-code (Int a) (Int b) x y same a-fits b-fits =
    slice_cmp-fronts 8 (flipped a) (flipped b) x y (flipped-below a a-fits) (flipped-below b b-fits)
    ∙ ap (λ o. ordering_then o (bytes_cmp x y)) (nat_cmp-flipped a b a-fits b-fits)
bytes_cmp-code (Int a) (Text t) x y same v-good w-good = absurd cc
bytes_cmp-code (Text s) (Int b) x y same v-good w-good = absurd cc
bytes_cmp-code (Text s) (Text t) x y same v-good w-good = rw (ended-code s x, ended-code t y) (slice_cmp-ended s t x y)

keeps : (xs ys : List Value) → map kind_of xs ≡ map kind_of ys → AllByRecursion IsInRange xs → AllByRecursion IsInRange ys
    → bytes_cmp (ordered_code xs) (ordered_code ys) ≡ tuple_cmp xs ys
keeps [] [] same xs-good ys-good = refl
keeps [] (y ∷ ys) same xs-good ys-good = absurd cc
keeps (x ∷ xs) [] same xs-good ys-good = absurd cc
keeps (x ∷ xs) (y ∷ ys) same xs-good ys-good =
    bytes_cmp-code x y (ordered_code xs) (ordered_code ys) (cc) xs-good.0 ys-good.0
    ∙ ap (ordering_then (value_cmp x y)) (keeps xs ys (cc) xs-good.1 ys-good.1)

pub keeps_order : KeepsOrder
keeps_order xs ys same xs-good ys-good = keeps xs ys same (recursion_from_All IsInRange xs xs-good) (recursion_from_All IsInRange ys ys-good)

both_equal : (o p : Ordering) → ordering_then o p ≡ Equal → (o ≡ Equal) × (p ≡ Equal)
both_equal Less p same = absurd cc
both_equal Equal p same = (refl, same)
both_equal Greater p same = absurd cc

exact : (v w : Value) → value_cmp v w ≡ Equal → v ≡ w
exact (Int a) (Int b) same = ap Int (exact_signed a b same)
exact (Int a) (Text t) same = absurd cc
exact (Text s) (Int b) same = absurd cc
exact (Text s) (Text t) same = ap Text (exact_bytes s t same)

-- no code begins another of its kind
pub code_front : (v w : Value) (x y : List ℕ) → kind_of v ≡ kind_of w → IsInRange v → IsInRange w → value_code v ++ x ≡ value_code w ++ y → (v ≡ w) × (x ≡ y)
code_front v w x y kinds v-good w-good same =
    let cmp = bytes_cmp-code v w x y kinds v-good w-good in
    let tied : bytes_cmp (value_code v ++ x) (value_code w ++ y) ≡ Equal =
    ap (bytes_cmp (value_code v ++ x)) (sym same) ∙ tied_itself nat_list_cmp_total (value_code v ++ x) in
    let both = both_equal (value_cmp v w) (bytes_cmp x y) (sym cmp ∙ tied) in
    (exact v w both.0, exact_bytes x y both.1)

same_lists : (xs ys : List Value) → tuple_cmp xs ys ≡ Equal → xs ≡ ys
same_lists [] [] same = refl
same_lists [] (y ∷ ys) same = absurd cc
same_lists (x ∷ xs) [] same = absurd cc
same_lists (x ∷ xs) (y ∷ ys) same =
    let both = both_equal (value_cmp x y) (tuple_cmp xs ys) same in
    let first = exact x y both.0 in
    let others = same_lists xs ys both.1 in
    cc

pub one_list : OneList
one_list xs ys kinds xs-good ys-good same =
    same_lists xs ys (sym (keeps_order xs ys kinds xs-good ys-good) ∙ ap (bytes_cmp (ordered_code xs)) (sym same) ∙ tied_itself nat_list_cmp_total (ordered_code xs))
