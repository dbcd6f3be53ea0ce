-- What a relation is made with: methods, columns and keys.
use Rattle.std.proofs.Common.{◌≡◌, ℕ, List, [], ◌∷◌, codes, refl, sym, ap, subst, inl, inr, Bool, false, arith}
use Rattle.sb_value.specs.declared.schema.Column.{Column}
use Rattle.sb_value.specs.declared.schema.Kind.{Kind}
use Rattle.sb_value.specs.declared.schema.Kind.TheVariants as kind
use Rattle.sb_tokens.specs.declared.token.Sign.TheVariants.{Open, Close}
use Rattle.sb_tokens.specs.declared.token.Token.{Token}
use Rattle.sb_tokens.specs.declared.token.Token.TheVariants as token
use Rattle.sb_language.specs.Lang.{◌⨾◌, ◌∣◌}
use Rattle.sb_grammar.specs.Grammar.{Piece, word, mark, name, names, listed, number_between, foreign_code, method, text_limit, kind_with, column, key_columns}
use Rattle.sb_language.proofs.Front.{Reads}
use Rattle.sb_language.proofs.Choice.{Marked, Avoids, Image, Alike, avoids_or, marked_image, marked_sign, reads_same}
use Rattle.sb_language.proofs.Parts.{Solid, Part, part_same, solid_pair}
use Rattle.sb_phrases.specs.Phrases.{◌⟫◌, is_word, is_mark, mark_at, number_at, method_at, bound_at, text_limit_at, kind_at, column_at, key_names_at, key_columns_at, listed_at}
use Rattle.sb_phrases.proofs.Joined.{Goes, then_part, then_reads, image_part, image_reads, or_part, or_reads, goes_then, goes_image, goes_same, goes_closed, goes_or, OrNone, maybe_reads, maybe_goes}
use Rattle.sb_phrases.proofs.PiecesRead.{tests_mark, Word, part_word, part_mark, part_name, part_number}
use Rattle.sb_phrases.proofs.PhrasesRead.{Keyed, behind, Signed, Named, marked_keyed, avoids_keyed, solid_keyed, marked_word, avoids_word, part_names, part_listed_open, part_foreign_code}

-- ---- methods
abbrev heap : Unit {0} → ℕ
heap x = 1

abbrev tree : Unit {0} → ℕ
tree x = 2

abbrev temp : Unit {0} → ℕ
temp x = 3

abbrev Another : ℕ → Piece
Another = Image behind (Keyed (codes "method") foreign_code)

abbrev NotTree : ℕ → Piece
NotTree code = Image temp (Word (codes "temp")) code ∣ Another code

abbrev NotHeap : ℕ → Piece
NotHeap code = Image tree (Word (codes "tree")) code ∣ NotTree code

abbrev Methods : ℕ → Piece
Methods code = Image heap (Word (codes "heap")) code ∣ NotHeap code

methods_alike : Alike Methods method
methods_alike = record { to = to; from = from }
  where
    to : (code : ℕ) (us : List Token) → Methods code us → method code us
    to code us (inl x) = inl (x.is, x.spelled)
    to code us (inr (inl x)) = inr (inl (x.is, x.spelled))
    to code us (inr (inr (inl x))) = inr (inr (inl (x.is, x.spelled)))
    to code us (inr (inr (inr x))) = inr (inr (inr (subst (λ c. (word (codes "method") ⨾ foreign_code c) us) (sym x.is) x.spelled)))

    from : (code : ℕ) (us : List Token) → method code us → Methods code us
    from code us (inl x) = inl (record { source = tt; is = x.0; spelled = x.1 })
    from code us (inr (inl x)) = inr (inl (record { source = tt; is = x.0; spelled = x.1 }))
    from code us (inr (inr (inl x))) = inr (inr (inl (record { source = tt; is = x.0; spelled = x.1 })))
    from code us (inr (inr (inr x))) = inr (inr (inr (record { source = (tt, code); is = refl; spelled = x })))

avoids_not_tree : (p : Token → Bool) → p (token.Word (codes "temp")) ≡ false → p (token.Word (codes "method")) ≡ false → Avoids NotTree p
avoids_not_tree p e f = avoids_or (Image temp (Word (codes "temp"))) Another p (avoids_word p (codes "temp") temp e) (avoids_keyed p (codes "method") foreign_code behind f)

avoids_not_heap : (p : Token → Bool) → p (token.Word (codes "tree")) ≡ false → p (token.Word (codes "temp")) ≡ false → p (token.Word (codes "method")) ≡ false → Avoids NotHeap p
avoids_not_heap p d e f = avoids_or (Image tree (Word (codes "tree"))) NotTree p (avoids_word p (codes "tree") tree d) (avoids_not_tree p e f)

pub part_method : Part method method_at
unfolding method_at
part_method = part_same Methods method method_at methods_alike
    (or_part (is_word (codes "heap")) (marked_word (codes "heap") heap) (avoids_not_heap (is_word (codes "heap")) refl refl refl) (image_part heap (part_word (codes "heap")))
    (or_part (is_word (codes "tree")) (marked_word (codes "tree") tree) (avoids_not_tree (is_word (codes "tree")) refl refl) (image_part tree (part_word (codes "tree")))
    (or_part (is_word (codes "temp")) (marked_word (codes "temp") temp) (avoids_keyed (is_word (codes "temp")) (codes "method") foreign_code behind refl) (image_part temp (part_word (codes "temp")))
    (image_part behind (then_part (part_word (codes "method")) part_foreign_code)))))

-- ---- the limit of a text
abbrev Bound : ℕ × Unit {0} → Piece
Bound x = number_between 1 255 x.0 ⨾ mark Close

abbrev bound : Unit {0} × (ℕ × Unit {0}) → ℕ
bound x = x.1.0

abbrev Bounded : ℕ → Piece
Bounded = Image bound (Signed Open Bound)

limit_alike : Alike (OrNone 255 Bounded) text_limit
limit_alike = record { to = to; from = from }
  where
    to : (n : ℕ) (us : List Token) → OrNone 255 Bounded n us → text_limit n us
    to n us (inl x) = inr (subst (λ m. (mark Open ⨾ number_between 1 255 m ⨾ mark Close) us) (sym x.is) x.spelled)
    to n us (inr x) = inl (x.is, x.spelled)

    from : (n : ℕ) (us : List Token) → text_limit n us → OrNone 255 Bounded n us
    from n us (inl x) = inr (record { source = tt; is = x.0; spelled = x.1 })
    from n us (inr x) = inl (record { source = (tt, (n, tt)); is = refl; spelled = x })

part_bound : Part Bound (number_at 1 255 ⟫ mark_at Close)
part_bound = then_part (part_number 1 255 (omega arith)) (part_mark Close)

part_bounded : Part Bounded bound_at
unfolding bound_at
part_bounded = image_part bound (then_part (part_mark Open) part_bound)

marked_bounded : Marked Bounded (is_mark Open)
marked_bounded = marked_image bound (Signed Open Bound) (is_mark Open) (marked_sign (is_mark Open) (token.Sign Open) Bound (tests_mark Open) part_bound.reads.some)

reads_text_limit : Reads text_limit text_limit_at
unfolding text_limit_at
reads_text_limit = reads_same (OrNone 255 Bounded) text_limit text_limit_at limit_alike (maybe_reads (is_mark Open) 255 marked_bounded part_bounded.reads)

-- it goes on with nothing but (
goes_text_limit : Goes text_limit (is_mark Open)
goes_text_limit = goes_same (OrNone 255 Bounded) text_limit (is_mark Open) limit_alike
    (maybe_goes Bounded (is_mark Open) (is_mark Open) 255 marked_bounded (λ t e. e) (goes_closed Bounded (is_mark Open) part_bounded.closed))

-- ---- columns
abbrev KindLimit : Kind × ℕ → Piece
KindLimit x = kind_with x.0 x.1

abbrev int : Unit {0} → Kind × ℕ
int x = (kind.Int, 0)

abbrev text : Unit {0} × ℕ → Kind × ℕ
text x = (kind.Text, x.1)

abbrev IntKind : Kind × ℕ → Piece
IntKind = Image int (Word (codes "int"))

abbrev TextKind : Kind × ℕ → Piece
TextKind = Image text (Keyed (codes "text") text_limit)

abbrev Kinds : Kind × ℕ → Piece
Kinds x = IntKind x ∣ TextKind x

kinds_alike : Alike Kinds KindLimit
kinds_alike = record { to = to; from = from }
  where
    to : (x : Kind × ℕ) (us : List Token) → Kinds x us → KindLimit x us
    to x us (inl y) = subst (λ z. KindLimit z us) (sym y.is) (refl, y.spelled)
    to x us (inr y) = subst (λ z. KindLimit z us) (sym y.is) y.spelled

    from_kind : (k : Kind) (limit : ℕ) (us : List Token) → kind_with k limit us → Kinds (k, limit) us
    from_kind kind.Int limit us y = inl (record { source = tt; is = ap (λ n. (kind.Int, n)) y.0; spelled = y.1 })
    from_kind kind.Text limit us y = inr (record { source = (tt, limit); is = refl; spelled = y })

    from : (x : Kind × ℕ) (us : List Token) → KindLimit x us → Kinds x us
    from x us y = from_kind x.0 x.1 us y

avoids_text : Avoids TextKind (is_word (codes "int"))
avoids_text = avoids_keyed (is_word (codes "int")) (codes "text") text_limit text refl

reads_kind : Reads KindLimit kind_at
unfolding kind_at
reads_kind = reads_same Kinds KindLimit kind_at kinds_alike
    (or_reads (is_word (codes "int")) (marked_word (codes "int") int) avoids_text (image_reads int (part_word (codes "int")).reads) (image_reads text (then_reads (part_word (codes "text")) reads_text_limit)))

goes_kind : Goes KindLimit (is_mark Open)
goes_kind = goes_same Kinds KindLimit (is_mark Open) kinds_alike
    (goes_or IntKind TextKind (is_word (codes "int")) (is_mark Open) (marked_word (codes "int") int) avoids_text (image_part int (part_word (codes "int"))).solid (solid_keyed (codes "text") text_limit text)
    (goes_closed IntKind (is_mark Open) (image_part int (part_word (codes "int"))).closed)
    (goes_image text (Keyed (codes "text") text_limit) (is_mark Open) (goes_then (Word (codes "text")) text_limit (is_mark Open) (part_word (codes "text")).closed goes_text_limit)))

abbrev column_of : List ℕ × (Kind × ℕ) → Column
column_of x = record { name = x.0; kind = x.1.0; limit = x.1.1 }

columns_alike : Alike (Image column_of (Named KindLimit)) column
columns_alike = record { to = λ c us x. subst (λ d. column d us) (sym x.is) x.spelled; from = λ c us x. record { source = (c.name, (c.kind, c.limit)); is = refl; spelled = x } }

reads_column : Reads column column_at
unfolding column_at
reads_column = reads_same (Image column_of (Named KindLimit)) column column_at columns_alike (image_reads column_of (then_reads part_name reads_kind))

goes_column : Goes column (is_mark Open)
goes_column = goes_same (Image column_of (Named KindLimit)) column (is_mark Open) columns_alike
    (goes_image column_of (Named KindLimit) (is_mark Open) (goes_then name KindLimit (is_mark Open) part_name.closed goes_kind))

solid_column : Solid column
solid_column c x = solid_pair name KindLimit part_name.solid (c.name, (c.kind, c.limit)) x

pub part_schema : Part (listed column) (listed_at column_at)
part_schema = part_listed_open column column_at (is_mark Open) reads_column solid_column goes_column refl refl

-- ---- keys
abbrev KeyNames : List (List ℕ) → Piece
KeyNames = Image behind (Keyed (codes "key") names)

key_alike : Alike (OrNone [] KeyNames) key_columns
key_alike = record { to = to; from = from }
  where
    kept : (labels : List (List ℕ)) (us : List Token) → Keyed (codes "key") names (tt, labels) us → key_columns labels us
    kept [] us x = absurd x.is_back.is_back.is_front
    kept (label ∷ labels) us x = x

    to : (labels : List (List ℕ)) (us : List Token) → OrNone [] KeyNames labels us → key_columns labels us
    to labels us (inl x) = subst (λ b. key_columns b us) (sym x.is) (kept x.source.1 us x.spelled)
    to labels us (inr x) = subst (λ b. key_columns b us) (sym x.is) x.spelled

    from : (labels : List (List ℕ)) (us : List Token) → key_columns labels us → OrNone [] KeyNames labels us
    from [] us x = inr (record { source = tt; is = refl; spelled = x })
    from (label ∷ labels) us x = inl (record { source = (tt, label ∷ labels); is = refl; spelled = x })

pub reads_key_columns : Reads key_columns key_columns_at
unfolding key_columns_at key_names_at
reads_key_columns = reads_same (OrNone [] KeyNames) key_columns key_columns_at key_alike
    (maybe_reads (is_word (codes "key")) [] (marked_keyed (codes "key") names behind part_names.reads.some) (image_reads behind (then_reads (part_word (codes "key")) part_names.reads)))
