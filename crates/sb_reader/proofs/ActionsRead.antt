-- Actions: reading them reads their grammar.
use Rattle.std.proofs.Common.{◌≡◌, ℕ, List, [], ◌∷◌, codes, refl, sym, ap, subst, inl, inr, Bool, true, false, cond}
use Rattle.sb_pred.specs.declared.predicate.Term.{Term}
use Rattle.sb_rule.specs.declared.action.Action.{Action}
use Rattle.sb_rule.specs.declared.action.Action.TheVariants as action
use Rattle.sb_tokens.specs.declared.token.Sign.TheVariants.{Equal}
use Rattle.sb_tokens.specs.declared.token.Token.{Token}
use Rattle.sb_tokens.specs.declared.token.Token.TheVariants as token
use Rattle.sb_language.specs.Lang.{◌⨾◌, ◌∣◌, items_up_to}
use Rattle.sb_language.specs.Reading.{or_else, items_at}
use Rattle.sb_grammar.specs.Grammar.{Piece, name, pair, matching, triggered, listed, full_term}
use Rattle.sb_language.proofs.Front.{Reads}
use Rattle.sb_language.proofs.Choice.{Marked, Avoids, Image, Alike, avoids_same, reads_same}
use Rattle.sb_language.proofs.Parts.{Solid, Part, part_same}
use Rattle.sb_language.proofs.Lists.{reads_items}
use Rattle.sb_phrases.specs.declared.form.Form.{Form}
use Rattle.sb_phrases.specs.declared.form.Form.TheVariants.{Full}
use Rattle.sb_phrases.specs.Phrases.{◌⟫◌, is_word, word_at, mark_at, name_at, term_at, listed_at}
use Rattle.sb_reader.specs.Commands.{pair_at, pairs_at, matching_at, insert_action_at, delete_action_at, set_action_at, add_action_at, triggered_at}
use Rattle.sb_phrases.proofs.Joined.{Goes, then_part, then_reads, image_part, image_reads, goes_then, goes_image, goes_same, goes_closed, goes_or, solid_or, OrNone, maybe_reads, maybe_avoids, maybe_goes, goes_items}
use Rattle.sb_phrases.proofs.PiecesRead.{tests_word, Word, Mark, part_word, part_mark, part_name}
use Rattle.sb_phrases.proofs.PhrasesRead.{Keyed, behind, Signed, Named, marked_keyed, avoids_keyed, solid_keyed, part_listed}
use Rattle.sb_reader.proofs.Branches.{Branch, Branches, keyed, last, or, reads_branches}
use Rattle.sb_phrases.proofs.PredicatesRead.{term_of, part_term, and_token}

-- ---- NAME = TERM
abbrev Equality : Form → List ℕ × (Unit {0} × Term) → Piece
Equality form = Named (Signed Equal (term_of form))

abbrev paired : List ℕ × (Unit {0} × Term) → List ℕ × Term
paired x = (x.0, x.1.1)

abbrev pair_of : Form → List ℕ × Term → Piece
pair_of form = pair (term_of form)

pair_alike : (form : Form) → Alike (Image paired (Equality form)) (pair_of form)
pair_alike form = record { to = λ p us x. subst (λ q. pair_of form q us) (sym x.is) x.spelled; from = λ p us x. record { source = (p.0, (tt, p.1)); is = refl; spelled = x } }

part_pair : (form : Form) → Part (pair_of form) (pair_at form)
unfolding pair_at
part_pair form = part_same (Image paired (Equality form)) (pair_of form) (pair_at form) (pair_alike form) (image_part paired (then_part part_name (then_part (part_mark Equal) (part_term form))))

-- ---- where PAIR {and PAIR}, or nothing
abbrev Pairs : Form → List (List ℕ × Term) → Piece
Pairs form = items_up_to 3 and_token (pair_of form)

abbrev Where : Form → List (List ℕ × Term) → Piece
Where form = Image behind (Keyed (codes "where") (Pairs form))

abbrev pub matching_of : Form → List (List ℕ × Term) → Piece
matching_of form = matching (term_of form)

matching_alike : (form : Form) → Alike (OrNone [] (Where form)) (matching_of form)
matching_alike form = record { to = to; from = from }
  where
    kept : (pairs : List (List ℕ × Term)) (us : List Token) → Keyed (codes "where") (Pairs form) (tt, pairs) us → matching_of form pairs us
    kept [] us x = absurd x.is_back
    kept (p ∷ pairs) us x = x

    to : (pairs : List (List ℕ × Term)) (us : List Token) → OrNone [] (Where form) pairs us → matching_of form pairs us
    to pairs us (inl x) = subst (λ q. matching_of form q us) (sym x.is) (kept x.source.1 us x.spelled)
    to pairs us (inr x) = subst (λ q. matching_of form q us) (sym x.is) x.spelled

    from : (pairs : List (List ℕ × Term)) (us : List Token) → matching_of form pairs us → OrNone [] (Where form) pairs us
    from [] us x = inr (record { source = tt; is = refl; spelled = x })
    from (p ∷ pairs) us x = inl (record { source = (tt, p ∷ pairs); is = refl; spelled = x })

reads_pairs : (form : Form) → Reads (Pairs form) (items_at 3 (is_word (codes "and")) (pair_at form))
reads_pairs form = reads_items 3 (is_word (codes "and")) and_token (pair_of form) (pair_at form) (tests_word (codes "and")) (part_pair form)

marked_where : (form : Form) → Marked (Where form) (is_word (codes "where"))
marked_where form = marked_keyed (codes "where") (Pairs form) behind (reads_pairs form).some

pub reads_matching : (form : Form) → Reads (matching_of form) (matching_at form)
unfolding matching_at pairs_at
reads_matching form = reads_same (OrNone [] (Where form)) (matching_of form) (matching_at form) (matching_alike form)
    (maybe_reads (is_word (codes "where")) [] (marked_where form) (image_reads behind (then_reads (part_word (codes "where")) (reads_pairs form))))

pub avoids_matching : (form : Form) (p : Token → Bool) → p (token.Word (codes "where")) ≡ false → Avoids (matching_of form) p
avoids_matching form p e = avoids_same (OrNone [] (Where form)) (matching_of form) p (matching_alike form) (maybe_avoids (Where form) [] p (avoids_keyed p (codes "where") (Pairs form) behind e))

-- it goes on with nothing but where and and
abbrev pub where_and : Token → Bool
where_and t = cond (is_word (codes "where") t) true (is_word (codes "and") t)

passes_first : (b c : Bool) → b ≡ true → cond b true c ≡ true
passes_first b c e = ap (λ d. cond d true c) e

passes_second : (b c : Bool) → c ≡ true → cond b true c ≡ true
passes_second true c e = refl
passes_second false c e = e

goes_pairs : (form : Form) → Goes (Pairs form) where_and
goes_pairs form a b us h m x y = passes_second (is_word (codes "where") h) (is_word (codes "and") h) (goes_items 3 (is_word (codes "and")) and_token (pair_of form) (tests_word (codes "and")) (part_pair form).closed a b us h m x y)

pub goes_matching : (form : Form) → Goes (matching_of form) where_and
goes_matching form = goes_same (OrNone [] (Where form)) (matching_of form) where_and (matching_alike form)
    (maybe_goes (Where form) (is_word (codes "where")) where_and [] (marked_where form) (λ t. passes_first (is_word (codes "where") t) (is_word (codes "and") t))
    (goes_image behind (Keyed (codes "where") (Pairs form)) where_and (goes_then (Word (codes "where")) (Pairs form) where_and (part_word (codes "where")).closed (goes_pairs form))))

-- ---- insert
abbrev Terms : List ℕ × (Unit {0} × List Term) → Piece
Terms = Named (Keyed (codes "values") (listed full_term))

abbrev insert_of : Unit {0} × (List ℕ × (Unit {0} × List Term)) → Action
insert_of x = action.Insert x.1.0 x.1.1.1

abbrev InsertAction : Action → Piece
InsertAction = Image insert_of (Keyed (codes "insert") Terms)

part_terms : Part Terms (name_at ⟫ word_at (codes "values") ⟫ listed_at (term_at Full))
part_terms = then_part part_name (then_part (part_word (codes "values")) (part_listed (part_term Full)))

-- ---- delete
abbrev Deleted : Form → List ℕ × List (List ℕ × Term) → Piece
Deleted form = Named (matching_of form)

abbrev delete_of : Unit {0} × (List ℕ × List (List ℕ × Term)) → Action
delete_of x = action.Delete x.1.0 x.1.1

abbrev pub DeleteAction : Form → Action → Piece
DeleteAction form = Image delete_of (Keyed (codes "delete") (Deleted form))

reads_deleted : (form : Form) → Reads (Deleted form) (name_at ⟫ matching_at form)
reads_deleted form = then_reads part_name (reads_matching form)

-- ---- set and add
abbrev Valued : Form → Term × List (List ℕ × Term) → Piece
Valued form x = term_of form x.0 ⨾ matching_of form x.1

abbrev Changed : Type 0
Changed = Unit {0} × (List ℕ × (List ℕ × (Unit {0} × (Term × List (List ℕ × Term)))))

abbrev SetTo : Form → List ℕ × (List ℕ × (Unit {0} × (Term × List (List ℕ × Term)))) → Piece
SetTo form = Named (Named (Signed Equal (Valued form)))

abbrev AddTo : Form → List ℕ × (List ℕ × (Unit {0} × (Term × List (List ℕ × Term)))) → Piece
AddTo form = Named (Named (Keyed (codes "by") (Valued form)))

abbrev set_of : Changed → Action
set_of x = action.Set x.1.0 x.1.1.0 x.1.1.1.1.0 x.1.1.1.1.1

abbrev add_of : Changed → Action
add_of x = action.Add x.1.0 x.1.1.0 x.1.1.1.1.0 x.1.1.1.1.1

abbrev pub SetAction : Form → Action → Piece
SetAction form = Image set_of (Keyed (codes "set") (SetTo form))

abbrev pub AddAction : Form → Action → Piece
AddAction form = Image add_of (Keyed (codes "add") (AddTo form))

reads_set_to : (form : Form) → Reads (SetTo form) (name_at ⟫ name_at ⟫ mark_at Equal ⟫ term_at form ⟫ matching_at form)
reads_set_to form = then_reads part_name (then_reads part_name (then_reads (part_mark Equal) (then_reads (part_term form) (reads_matching form))))

reads_add_to : (form : Form) → Reads (AddTo form) (name_at ⟫ name_at ⟫ word_at (codes "by") ⟫ term_at form ⟫ matching_at form)
reads_add_to form = then_reads part_name (then_reads part_name (then_reads (part_word (codes "by")) (then_reads (part_term form) (reads_matching form))))

-- the actions of each form that begin with set, as sentences of a language that has them
pub set_branch : {G : Action → Piece} (form : Form) → ((x : Changed) (us : List Token) → Keyed (codes "set") (SetTo form) x us → G (set_of x) us) → Branch G (codes "set") (SetAction form) (set_action_at form)
unfolding set_action_at
set_branch form s = keyed (codes "set") set_of s (reads_set_to form)

pub add_branch : {G : Action → Piece} (form : Form) → ((x : Changed) (us : List Token) → Keyed (codes "add") (AddTo form) x us → G (add_of x) us) → Branch G (codes "add") (AddAction form) (add_action_at form)
unfolding add_action_at
add_branch form s = keyed (codes "add") add_of s (reads_add_to form)

-- ---- where actions go on
goes_named : {B : Type 0} (Q : B → Piece) (k : Token → Bool) → Goes Q k → Goes (Named Q) k
goes_named Q k g = goes_then name Q k part_name.closed g

goes_keyed : {A B : Type 0} (text : List ℕ) (Q : B → Piece) (f : Unit {0} × B → A) (k : Token → Bool) → Goes Q k → Goes (Image f (Keyed text Q)) k
goes_keyed text Q f k g = goes_image f (Keyed text Q) k (goes_then (Word text) Q k (part_word text).closed g)

goes_valued : (form : Form) → Goes (Valued form) where_and
goes_valued form = goes_then (term_of form) (matching_of form) where_and (part_term form).closed (goes_matching form)

goes_delete : (form : Form) → Goes (DeleteAction form) where_and
goes_delete form = goes_keyed (codes "delete") (Deleted form) delete_of where_and (goes_named (matching_of form) where_and (goes_matching form))

goes_insert : Goes InsertAction where_and
goes_insert = goes_keyed (codes "insert") Terms insert_of where_and (goes_closed Terms where_and part_terms.closed)

goes_set : (form : Form) → Goes (SetAction form) where_and
goes_set form = goes_keyed (codes "set") (SetTo form) set_of where_and
    (goes_named (Named (Signed Equal (Valued form))) where_and (goes_named (Signed Equal (Valued form)) where_and (goes_then (Mark Equal) (Valued form) where_and (part_mark Equal).closed (goes_valued form))))

goes_add : (form : Form) → Goes (AddAction form) where_and
goes_add form = goes_keyed (codes "add") (AddTo form) add_of where_and
    (goes_named (Named (Keyed (codes "by") (Valued form))) where_and (goes_named (Keyed (codes "by") (Valued form)) where_and (goes_then (Word (codes "by")) (Valued form) where_and (part_word (codes "by")).closed (goes_valued form))))

-- ---- what a trigger does
abbrev Change : Action → Piece
Change a = SetAction Full a ∣ AddAction Full a

abbrev Old : Action → Piece
Old a = DeleteAction Full a ∣ Change a

abbrev Triggered : Action → Piece
Triggered a = InsertAction a ∣ Old a

insert_branch : Branch triggered (codes "insert") InsertAction insert_action_at
unfolding insert_action_at
insert_branch = keyed (codes "insert") insert_of (λ x us s. s) part_terms.reads

delete_branch : Branch triggered (codes "delete") (DeleteAction Full) (delete_action_at Full)
unfolding delete_action_at
delete_branch = keyed (codes "delete") delete_of (λ x us s. s) (reads_deleted Full)

change : Branches triggered (codes "set" ∷ codes "add" ∷ []) Change (or_else (is_word (codes "set")) (set_action_at Full) (add_action_at Full))
change = or (set_branch Full (λ x us s. s)) (last (add_branch Full (λ x us s. s))) refl

old : Branches triggered (codes "delete" ∷ codes "set" ∷ codes "add" ∷ []) Old (or_else (is_word (codes "delete")) (delete_action_at Full) (or_else (is_word (codes "set")) (set_action_at Full) (add_action_at Full)))
old = or delete_branch change refl

all : Branches triggered (codes "insert" ∷ codes "delete" ∷ codes "set" ∷ codes "add" ∷ []) Triggered triggered_at
unfolding triggered_at
all = or insert_branch old refl

from_triggered : (a : Action) (us : List Token) → triggered a us → Triggered a us
from_triggered (action.Insert relation terms) us x = inl (record { source = (tt, (relation, (tt, terms))); is = refl; spelled = x })
from_triggered (action.Delete relation pairs) us x = inr (inl (record { source = (tt, (relation, pairs)); is = refl; spelled = x }))
from_triggered (action.Set relation column new pairs) us x = inr (inr (inl (record { source = (tt, (relation, (column, (tt, (new, pairs))))); is = refl; spelled = x })))
from_triggered (action.Add relation column new pairs) us x = inr (inr (inr (record { source = (tt, (relation, (column, (tt, (new, pairs))))); is = refl; spelled = x })))

pub reads_triggered : Reads triggered triggered_at
reads_triggered = reads_branches triggered (codes "insert" ∷ codes "delete" ∷ codes "set" ∷ codes "add" ∷ []) Triggered triggered_at all from_triggered

pub goes_triggered : Goes triggered where_and
goes_triggered =
    let set : Solid (SetAction Full) = solid_keyed (codes "set") (SetTo Full) set_of in
    let add : Solid (AddAction Full) = solid_keyed (codes "add") (AddTo Full) add_of in
    let delete : Solid (DeleteAction Full) = solid_keyed (codes "delete") (Deleted Full) delete_of in
    let insert : Solid InsertAction = solid_keyed (codes "insert") Terms insert_of in
    let other : Solid Change = solid_or (SetAction Full) (AddAction Full) set add in
    let marked = (set_branch {G = triggered} Full (λ x us s. s)).marked in
    goes_same Triggered triggered where_and (record { to = all.sound; from = from_triggered })
    (goes_or InsertAction Old (is_word (codes "insert")) where_and insert_branch.marked (old.avoids (codes "insert") refl) insert (solid_or (DeleteAction Full) Change delete other) goes_insert
    (goes_or (DeleteAction Full) Change (is_word (codes "delete")) where_and delete_branch.marked (change.avoids (codes "delete") refl) delete other (goes_delete Full)
    (goes_or (SetAction Full) (AddAction Full) (is_word (codes "set")) where_and marked (avoids_keyed (is_word (codes "set")) (codes "add") (AddTo Full) add_of refl) set add (goes_set Full) (goes_add Full))))
