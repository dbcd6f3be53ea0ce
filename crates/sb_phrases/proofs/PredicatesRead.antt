-- Terms and predicates: reading them reads their grammar.
use Rattle.std.proofs.Common.{◌≡◌, ◌≢◌, ℕ, zero, suc, ◌-◌, List, [], ◌∷◌, ◌++◌, codes, refl, sym, ◌∙◌, ap, subst, inl, inr, Bool, true, false, cond, Some, None, IfSome, Ok, Err, pos, arith}
use Rattle.sb_value.specs.declared.value.Value.{Value}
use Rattle.sb_value.specs.declared.value.Value.TheVariants as value
use Rattle.sb_pred.specs.declared.predicate.Op.{Op}
use Rattle.sb_pred.specs.declared.predicate.Term.{Term}
use Rattle.sb_pred.specs.declared.predicate.Term.TheVariants.{Const, New, Old}
use Rattle.sb_pred.specs.Tree.{Tree, Always, Compare, Both, Either, Fails}
use Rattle.sb_tokens.specs.declared.token.Sign.TheVariants.{Open, Close, Dot}
use Rattle.sb_tokens.specs.declared.token.Token.{Token}
use Rattle.sb_tokens.specs.declared.token.Token.TheVariants as token
use Rattle.sb_language.specs.Lang.{◌⨾◌, ◌∣◌}
use Rattle.sb_language.specs.Words.{is_keyword}
use Rattle.sb_language.specs.Reading.{Read, paired, and_then, mapped, token_at, sign_at, starts}
use Rattle.sb_grammar.specs.Grammar.{Piece, word, mark, name, constant, constant_term, bare_term, full_term, plain_unit, conjunction, disjunction, negation, unit_within}
use Rattle.sb_language.proofs.Front.{Reads}
use Rattle.sb_language.proofs.Choice.{Marked, Avoids, Image, Alike, marked_image, marked_same, marked_sign, marked_alone, avoids_image, avoids_or, avoids_same, avoids_sign, avoids_then}
use Rattle.sb_language.proofs.Parts.{Part, Solid, part_token, part_same, parted_closed}
use Rattle.sb_language.proofs.Lists.{reads_grouped}
use Rattle.sb_language.proofs.Stops.{Stops, stops_grouped, parted_stop, solid_grouped}
use Rattle.sb_phrases.specs.declared.form.Form.{Form}
use Rattle.sb_phrases.specs.declared.form.Form.TheVariants.{Constant, Bare, Full}
use Rattle.sb_phrases.specs.Phrases.{◌⟫◌, Reader, is_word, is_mark, bare_in, mark_at, name_at, constant_term_at, new_column_at, old_column_at, full_term_at, term_at, comparison_at, always_at, plain_unit_at, conjunction_at, disjunction_at, negation_at, group_at, unit_at}
use Rattle.sb_phrases.proofs.Loops.{passes}
use Rattle.sb_phrases.proofs.Joined.{Goes, then_part, image_part, or_part, ended_part}
use Rattle.sb_phrases.proofs.PiecesRead.{tests_word, tests_mark, Word, Compared, part_word, part_mark, part_name, part_constant, part_op, Clear, clear_word, clear_mark, first_token, avoids_constant}

-- ---- a value and nothing else
abbrev of_value : Value → Term
of_value v = Const v

constant_alike : Alike (Image of_value constant) constant_term
constant_alike = record { to = λ a us x. subst (λ b. constant_term b us) (sym x.is) x.spelled; from = from }
  where
    from : (a : Term) (us : List Token) → constant_term a us → Image of_value constant a us
    from (Const v) us x = record { source = v; is = refl; spelled = x }
    from (New column) us x = absurd x
    from (Old column) us x = absurd x

part_constant_term : Part constant_term constant_term_at
unfolding constant_term_at
part_constant_term = part_same (Image of_value constant) constant_term constant_term_at constant_alike (image_part of_value part_constant)

avoids_constant_term : (p : Token → Bool) → Clear p → Avoids constant_term p
avoids_constant_term p c = avoids_same (Image of_value constant) constant_term p constant_alike (avoids_image of_value constant p (avoids_constant p c))

-- ---- a value, or a column by its name
bare_found : (found : List ℕ) (b : Bool) → is_keyword found ≡ b → IfSome (cond b None (Some (New found))) (λ a. bare_term a (token.Word found ∷ []))
bare_found found true e = tt
bare_found found false e = (e, refl)

bare_given : (t : Token) → IfSome (bare_in t) (λ a. bare_term a (t ∷ []))
bare_given (token.Word found) = bare_found found (is_keyword found) refl
bare_given (token.Int n) = refl
bare_given (token.Text s) = refl
bare_given (token.Key k) = tt
bare_given (token.Sign sign) = tt

bare_picked : (a : Term) (us : List Token) → bare_term a us → (t : Token) × (us ≡ t ∷ []) × (bare_in t ≡ Some a)
bare_picked (Const (value.Int n)) us x = (token.Int n, x, refl)
bare_picked (Const (value.Text s)) us x = (token.Text s, x, refl)
bare_picked (New column) us x = (token.Word column, x.1, ap (λ b. cond b None (Some (New column))) x.0)
bare_picked (Old column) us x = absurd x

part_bare_term : Part bare_term (token_at bare_in)
part_bare_term = part_token bare_term bare_in (record { value = Const (value.Int (pos 0)); more = token.Int (pos 0) ∷ []; spelled = refl }) bare_given bare_picked

avoids_bare_term : (p : Token → Bool) → Clear p → Avoids bare_term p
avoids_bare_term p c (Const (value.Int n)) t m x = first_token p t (token.Int n) m x (c.ints n)
avoids_bare_term p c (Const (value.Text s)) t m x = first_token p t (token.Text s) m x (c.texts s)
avoids_bare_term p c (New column) t m x = first_token p t (token.Word column) m x.1 (c.names column x.0)
avoids_bare_term p c (Old column) t m x = absurd x

-- ---- a value, or a column of the new or the old row
abbrev Dotted : Unit {0} × List ℕ → Piece
Dotted x = mark Dot ⨾ name x.1

abbrev Column : List ℕ → Unit {0} × (Unit {0} × List ℕ) → Piece
Column row x = word row ⨾ Dotted x.1

abbrev of_new : Unit {0} × (Unit {0} × List ℕ) → Term
of_new x = New x.1.1

abbrev of_old : Unit {0} × (Unit {0} × List ℕ) → Term
of_old x = Old x.1.1

abbrev NewColumn : Term → Piece
NewColumn = Image of_new (Column (codes "new"))

abbrev OldColumn : Term → Piece
OldColumn = Image of_old (Column (codes "old"))

abbrev FullTerm : Term → Piece
FullTerm a = NewColumn a ∣ OldColumn a ∣ constant_term a

to_full : (a : Term) (us : List Token) → FullTerm a us → full_term a us
to_full a us (inl x) = subst (λ b. full_term b us) (sym x.is) x.spelled
to_full a us (inr (inl x)) = subst (λ b. full_term b us) (sym x.is) x.spelled
to_full (Const v) us (inr (inr x)) = x
to_full (New column) us (inr (inr x)) = absurd x
to_full (Old column) us (inr (inr x)) = absurd x

from_full : (a : Term) (us : List Token) → full_term a us → FullTerm a us
from_full (Const v) us x = inr (inr x)
from_full (New column) us x = inl (record { source = (tt, (tt, column)); is = refl; spelled = x })
from_full (Old column) us x = inr (inl (record { source = (tt, (tt, column)); is = refl; spelled = x }))

part_dotted : Part Dotted (mark_at Dot ⟫ name_at)
part_dotted = then_part (part_mark Dot) part_name

marked_column : (row : List ℕ) (f : Unit {0} × (Unit {0} × List ℕ) → Term) → Marked (Image f (Column row)) (is_word row)
marked_column row f = marked_image f (Column row) (is_word row) (marked_sign (is_word row) (token.Word row) Dotted (tests_word row) part_dotted.reads.some)

avoids_column : (p : Token → Bool) (row : List ℕ) (f : Unit {0} × (Unit {0} × List ℕ) → Term) → p (token.Word row) ≡ false → Avoids (Image f (Column row)) p
avoids_column p row f e = avoids_image f (Column row) p (avoids_sign p (token.Word row) Dotted e)

avoids_full : (p : Token → Bool) → Clear p → Avoids full_term p
avoids_full p c = avoids_same FullTerm full_term p (record { to = to_full; from = from_full })
    (avoids_or NewColumn (λ a. OldColumn a ∣ constant_term a) p (avoids_column p (codes "new") of_new c.new_word)
    (avoids_or OldColumn constant_term p (avoids_column p (codes "old") of_old c.old_word) (avoids_constant_term p c)))

avoids_row_word : (row : List ℕ) → Avoids constant_term (is_word row)
avoids_row_word row = avoids_same (Image of_value constant) constant_term (is_word row) constant_alike (avoids_image of_value constant (is_word row) avoided)
  where
    avoided : Avoids constant (is_word row)
    avoided (value.Int n) t m x = first_token (is_word row) t (token.Int n) m x refl
    avoided (value.Text s) t m x = first_token (is_word row) t (token.Text s) m x refl

part_full_term : Part full_term full_term_at
unfolding full_term_at new_column_at old_column_at
part_full_term = part_same FullTerm full_term full_term_at (record { to = to_full; from = from_full })
    (or_part (is_word (codes "new")) (marked_column (codes "new") of_new)
    (avoids_or OldColumn constant_term (is_word (codes "new")) (avoids_column (is_word (codes "new")) (codes "old") of_old refl) (avoids_row_word (codes "new")))
    (image_part of_new (then_part (part_word (codes "new")) part_dotted))
    (or_part (is_word (codes "old")) (marked_column (codes "old") of_old) (avoids_row_word (codes "old"))
    (image_part of_old (then_part (part_word (codes "old")) part_dotted)) part_constant_term))

-- ---- terms of each form
abbrev pub term_of : Form → Term → Piece
term_of Constant = constant_term
term_of Bare = bare_term
term_of Full = full_term

pub part_term : (form : Form) → Part (term_of form) (term_at form)
unfolding term_at
part_term Constant = part_constant_term
part_term Bare = part_bare_term
part_term Full = part_full_term

avoids_term : (form : Form) (p : Token → Bool) → Clear p → Avoids (term_of form) p
avoids_term Constant = avoids_constant_term
avoids_term Bare = avoids_bare_term
avoids_term Full = avoids_full

-- ---- always, or a comparison
always_is_keyword : is_keyword (codes "always") ≡ true
unfolding is_keyword
always_is_keyword = refl

not_is_keyword : is_keyword (codes "not") ≡ true
unfolding is_keyword
not_is_keyword = refl

abbrev Sides : Form → Op × Term → Piece
Sides form x = Compared x.0 ⨾ term_of form x.1

abbrev Comparison : Form → Term × (Op × Term) → Piece
Comparison form x = term_of form x.0 ⨾ Sides form x.1

abbrev compare : Term × (Op × Term) → Tree
compare x = Compare x.1.0 x.0 x.1.1

abbrev always : Unit {0} → Tree
always x = Always

abbrev AlwaysWord : Tree → Piece
AlwaysWord = Image always (Word (codes "always"))

abbrev Plain : Form → Tree → Piece
Plain form p = AlwaysWord p ∣ Image compare (Comparison form) p

abbrev plain : Form → Tree → Piece
plain form = plain_unit (term_of form)

to_plain : (form : Form) (p : Tree) (us : List Token) → Plain form p us → plain form p us
to_plain form p us (inl x) = subst (λ q. plain form q us) (sym x.is) x.spelled
to_plain form p us (inr x) = subst (λ q. plain form q us) (sym x.is) x.spelled

from_plain : (form : Form) (p : Tree) (us : List Token) → plain form p us → Plain form p us
from_plain form Always us x = inl (record { source = tt; is = refl; spelled = x })
from_plain form (Compare op a b) us x = inr (record { source = (a, (op, b)); is = refl; spelled = x })
from_plain form (Both p q) us x = absurd x
from_plain form (Either p q) us x = absurd x
from_plain form (Fails p) us x = absurd x

plain_alike : (form : Form) → Alike (Plain form) (plain form)
plain_alike form = record { to = to_plain form; from = from_plain form }

avoids_comparison : (form : Form) (p : Token → Bool) → Clear p → Avoids (Image compare (Comparison form)) p
avoids_comparison form p c = avoids_image compare (Comparison form) p (avoids_then (term_of form) (Sides form) p (part_term form).solid (avoids_term form p c))

avoids_always : (p : Token → Bool) → p (token.Word (codes "always")) ≡ false → Avoids AlwaysWord p
avoids_always p e b t m x = first_token p t (token.Word (codes "always")) m x.spelled e

avoids_plain : (form : Form) (p : Token → Bool) → Clear p → p (token.Word (codes "always")) ≡ false → Avoids (plain form) p
avoids_plain form p c e = avoids_same (Plain form) (plain form) p (plain_alike form) (avoids_or AlwaysWord (Image compare (Comparison form)) p (avoids_always p e) (avoids_comparison form p c))

part_plain : (form : Form) → Part (plain form) (plain_unit_at form)
unfolding plain_unit_at always_at comparison_at
part_plain form = part_same (Plain form) (plain form) (plain_unit_at form) (plain_alike form)
    (or_part (is_word (codes "always"))
    (marked_image always (Word (codes "always")) (is_word (codes "always")) (marked_alone (is_word (codes "always")) (token.Word (codes "always")) (tests_word (codes "always"))))
    (avoids_comparison form (is_word (codes "always")) (clear_word (codes "always") always_is_keyword refl refl))
    (image_part always (part_word (codes "always")))
    (image_part compare (then_part (part_term form) (then_part part_op (part_term form)))))

-- ---- and, or
abbrev pub and_token : Token
and_token = token.Word (codes "and")

abbrev pub or_token : Token
or_token = token.Word (codes "or")

abbrev close_token : Token
close_token = token.Sign Close

-- a token that the one test passes and the other doesn't
pub apart : (p : Token → Bool) (t u : Token) → p t ≡ true → p u ≡ false → u ≡ t → ⊥
apart p t u y n e = let f = ap p e in cc

or_is_not_and : or_token ≡ and_token → ⊥
or_is_not_and = apart (is_word (codes "and")) and_token or_token refl refl

pub reads_conjunction : (U : Tree → Piece) (R : Reader Tree) → Part U R → Reads (conjunction U) (conjunction_at R)
unfolding conjunction_at
reads_conjunction U R f = reads_grouped Both (is_word (codes "and")) and_token U R (tests_word (codes "and")) (parted_closed U (Word (codes "and")) f.closed) f.reads

-- a conjunction goes on with nothing but and
stops_conjunction : (U : Tree → Piece) (R : Reader Tree) → Part U R → Stops (conjunction U) (λ t. t ≡ and_token → ⊥)
stops_conjunction U R f a b us h m k x y = stops_grouped Both U (λ _. Unit {0}) and_token h (λ a b us h m _ x y. f.closed a b us h m x y) tt tt k a b us m x y

reads_disjunction : (U : Tree → Piece) (R : Reader Tree) → Part U R → Reads (disjunction U) (disjunction_at R)
unfolding disjunction_at
reads_disjunction U R f = reads_grouped Either (is_word (codes "or")) or_token (conjunction U) (conjunction_at R) (tests_word (codes "or"))
    (parted_stop (conjunction U) (λ t. t ≡ and_token → ⊥) or_token (stops_conjunction U R f) or_is_not_and) (reads_conjunction U R f)

-- and a predicate with nothing but and and or
ends_disjunction : (U : Tree → Piece) (R : Reader Tree) (u : Token) → Part U R → is_word (codes "and") u ≡ false → is_word (codes "or") u ≡ false → Stops (disjunction U) (λ t. t ≡ u)
ends_disjunction U R u f n o a b us h m k x y =
    stops_grouped Either (conjunction U) (λ t. t ≡ and_token → ⊥) or_token h (stops_conjunction U R f) or_is_not_and
    (λ e. apart (is_word (codes "and")) and_token u refl n (sym k ∙ e)) (λ e. apart (is_word (codes "or")) or_token u refl o (sym k ∙ e)) a b us m x y

solid_disjunction : (U : Tree → Piece) → Solid U → Solid (disjunction U)
solid_disjunction U s = solid_grouped Either or_token (conjunction U) (solid_grouped Both and_token U s)

-- ---- not
abbrev Negation : (Tree → Piece) → Unit {0} × Tree → Piece
Negation U x = word (codes "not") ⨾ U x.1

abbrev fails : Unit {0} × Tree → Tree
fails x = Fails x.1

from_negation : (U : Tree → Piece) (p : Tree) (us : List Token) → negation U p us → Image fails (Negation U) p us
from_negation U (Fails p) us x = record { source = (tt, p); is = refl; spelled = x }
from_negation U Always us x = absurd x
from_negation U (Compare op a b) us x = absurd x
from_negation U (Both p q) us x = absurd x
from_negation U (Either p q) us x = absurd x

negation_alike : (U : Tree → Piece) → Alike (Image fails (Negation U)) (negation U)
negation_alike U = record { to = λ p us x. subst (λ q. negation U q us) (sym x.is) x.spelled; from = from_negation U }

part_negation : (U : Tree → Piece) (R : Reader Tree) → Part U R → Part (negation U) (negation_at R)
unfolding negation_at
part_negation U R f = part_same (Image fails (Negation U)) (negation U) (negation_at R) (negation_alike U) (image_part fails (then_part (part_word (codes "not")) f))

marked_negation : (U : Tree → Piece) (R : Reader Tree) → Part U R → Marked (negation U) (is_word (codes "not"))
marked_negation U R f = marked_same (Image fails (Negation U)) (negation U) (is_word (codes "not")) (negation_alike U)
    (marked_image fails (Negation U) (is_word (codes "not")) (marked_sign (is_word (codes "not")) (token.Word (codes "not")) U (tests_word (codes "not")) f.reads.some))

-- ---- parentheses
abbrev Inner : (Tree → Piece) → Tree × Unit {0} → Piece
Inner U x = disjunction U x.0 ⨾ mark Close

abbrev Group : (Tree → Piece) → Unit {0} × (Tree × Unit {0}) → Piece
Group U x = mark Open ⨾ Inner U x.1

abbrev inner : Unit {0} × (Tree × Unit {0}) → Tree
inner x = x.1.0

abbrev parenthesised : (Tree → Piece) → Tree → Piece
parenthesised U p = mark Open ⨾ disjunction U p ⨾ mark Close

group_alike : (U : Tree → Piece) → Alike (Image inner (Group U)) (parenthesised U)
group_alike U = record {
  to = λ p us x. subst (λ q. parenthesised U q us) (sym x.is) x.spelled;
  from = λ p us x. record { source = (tt, (p, tt)); is = refl; spelled = x };
}

part_inner : (U : Tree → Piece) (R : Reader Tree) → Part U R → Part (Inner U) (disjunction_at R ⟫ mark_at Close)
part_inner U R f = ended_part (reads_disjunction U R f) (parted_stop (disjunction U) (λ t. t ≡ close_token) close_token (ends_disjunction U R close_token f refl refl) refl) (solid_disjunction U f.solid) (part_mark Close)

part_group : (U : Tree → Piece) (R : Reader Tree) → Part U R → Part (parenthesised U) (group_at R)
unfolding group_at
part_group U R f = part_same (Image inner (Group U)) (parenthesised U) (group_at R) (group_alike U) (image_part inner (then_part (part_mark Open) (part_inner U R f)))

marked_group : (U : Tree → Piece) (R : Reader Tree) → Part U R → Marked (parenthesised U) (is_mark Open)
marked_group U R f = marked_same (Image inner (Group U)) (parenthesised U) (is_mark Open) (group_alike U)
    (marked_image inner (Group U) (is_mark Open) (marked_sign (is_mark Open) (token.Sign Open) (Inner U) (tests_mark Open) (part_inner U R f).reads.some))

avoids_group : (U : Tree → Piece) → Avoids (parenthesised U) (is_word (codes "not"))
avoids_group U = avoids_same (Image inner (Group U)) (parenthesised U) (is_word (codes "not")) (group_alike U)
    (avoids_image inner (Group U) (is_word (codes "not")) (avoids_sign (is_word (codes "not")) (token.Sign Open) (Inner U) refl))

-- ---- units
abbrev pub unit_of : Form → ℕ → Tree → Piece
unit_of form = unit_within (term_of form)

pub part_unit : (form : Form) (n : ℕ) → Part (unit_of form n) (unit_at form n)
unfolding unit_within unit_at
part_unit form zero = part_plain form
part_unit form (suc n) =
    let U : Tree → Piece = unit_of form n in
    let R : Reader Tree = unit_at form n in
    let f : Part U R = part_unit form n in
    or_part (is_word (codes "not")) (marked_negation U R f)
    (avoids_or (parenthesised U) (plain form) (is_word (codes "not")) (avoids_group U) (avoids_plain form (is_word (codes "not")) (clear_word (codes "not") not_is_keyword refl refl) refl))
    (part_negation U R f)
    (or_part (is_mark Open) (marked_group U R f) (avoids_plain form (is_mark Open) (clear_mark Open) refl) (part_group U R f) (part_plain form))

-- ---- predicates
pub reads_predicate : (form : Form) (n : ℕ) → Reads (disjunction (unit_of form n)) (disjunction_at (unit_at form n))
reads_predicate form n = reads_disjunction (unit_of form n) (unit_at form n) (part_unit form n)

-- no predicate goes on with this token
stops_predicate : (form : Form) (n : ℕ) (u : Token) → is_word (codes "and") u ≡ false → is_word (codes "or") u ≡ false → Stops (disjunction (unit_of form n)) (λ t. t ≡ u)
stops_predicate form n u = ends_disjunction (unit_of form n) (unit_at form n) u (part_unit form n)

-- a predicate goes on with nothing but and and or
abbrev pub and_or : Token → Bool
and_or t = cond (is_word (codes "and") t) true (is_word (codes "or") t)

goes_on : (form : Form) (n : ℕ) (a b : Tree) (us : List Token) (h : Token) (m : List Token) (x y : Bool) → is_word (codes "and") h ≡ x → is_word (codes "or") h ≡ y → disjunction (unit_of form n) a us → disjunction (unit_of form n) b (us ++ h ∷ m) → cond x true y ≡ true
goes_on form n a b us h m true y e f s z = refl
goes_on form n a b us h m false true e f s z = refl
goes_on form n a b us h m false false e f s z = absurd (stops_predicate form n h e f a b us h m refl s z)

pub goes_predicate : (form : Form) (n : ℕ) → Goes (disjunction (unit_of form n)) and_or
goes_predicate form n a b us h m x y = goes_on form n a b us h m (is_word (codes "and") h) (is_word (codes "or") h) refl refl x y

-- ---- reading a unit, by what it begins with
pub unit_zero : (form : Form) (n : ℕ) (ts : List Token) → n ≡ 0 → unit_at form n ts ≡ plain_unit_at form ts
unfolding unit_at
unit_zero form n ts e = ap (λ m. unit_at form m ts) e

without_sign : {A B : Type 0} (f : A → B) (r : Read Token A) → mapped (λ (x : Unit {0} × A). f x.1) (paired tt r) ≡ mapped f r
without_sign f (Ok x) = refl
without_sign f (Err l) = refl

pub unit_not : (form : Form) (d : ℕ) (ts us : List Token) → d ≢ 0 → sign_at (is_word (codes "not")) ts ≡ Ok (tt, us) → unit_at form d ts ≡ mapped (λ p. Fails p) (unit_at form (d - 1) us)
unfolding unit_at negation_at
unit_not form d ts us n s =
    let e : d ≡ suc (d - 1) = omega arith in
    let k = passes (is_word (codes "not")) ts us s in
    ap (λ m. unit_at form m ts) e ∙ rw (k, s) (without_sign (λ p. Fails p) (unit_at form (d - 1) us))

pub unit_group : (form : Form) (d : ℕ) (ts us : List Token) → d ≢ 0 → starts (is_word (codes "not")) ts ≡ false → sign_at (is_mark Open) ts ≡ Ok (tt, us) →
    unit_at form d ts ≡ mapped (λ x. x.0) (and_then (disjunction_at (unit_at form (d - 1)) us) (mark_at Close))
unfolding unit_at group_at
unit_group form d ts us n f s =
    let e : d ≡ suc (d - 1) = omega arith in
    let k = passes (is_mark Open) ts us s in
    ap (λ m. unit_at form m ts) e ∙ rw (f, k, s) (without_sign (λ x. x.0) (and_then (disjunction_at (unit_at form (d - 1)) us) (mark_at Close)))

pub unit_plain : (form : Form) (d : ℕ) (ts : List Token) → d ≢ 0 → starts (is_word (codes "not")) ts ≡ false → starts (is_mark Open) ts ≡ false → unit_at form d ts ≡ plain_unit_at form ts
unfolding unit_at
unit_plain form d ts n f g =
    let e : d ≡ suc (d - 1) = omega arith in
    ap (λ m. unit_at form m ts) e ∙ rw (f, g) refl
