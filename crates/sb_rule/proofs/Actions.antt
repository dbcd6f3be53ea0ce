-- What can't stand where an action is looked for, and actions that go on to one row of bytes.
use Rattle.std.proofs.Common.{◌≡◌, ℕ, List, ◌∷◌, ◌++◌, ap}
use Rattle.sb_pred.specs.Spelling.{name_spelling, term_spelling, IsStorableName, IsStorableTerm}
use Rattle.sb_pred.specs.declared.predicate.Term.{Term}
use Rattle.sb_rule.specs.Rows.{Name}
use Rattle.sb_rule.specs.declared.action.Action.TheVariants.{Insert, Delete, Set, Add}
use Rattle.sb_rule.specs.Spelling.{names_spelling, terms_spelling, pairs_spelling, tie_spelling, assignment_spelling, action_spelling, IsShortList, IsStorablePair, IsStorableTie, IsStorableAssignment, IsStorableAction}
use Rattle.sb_rule.specs.Reading.{IsInsert, IsDelete, insert_parts, delete_parts}
use Rattle.sb_rule.proofs.Fronts.{NoneBegins, NoneStands, both, AreBoth, both_front, found_both, no_first, no_second, name_front, term_front, names_front, terms_front, pairs_front}

-- the last parts of a tie and of an assignment
abbrev other_spelling : Name × List Name → List ℕ
other_spelling = both IsStorableName name_spelling (IsShortList IsStorableName) names_spelling

abbrev IsOther : Name × List Name → Type 0
IsOther = AreBoth IsStorableName name_spelling (IsShortList IsStorableName) names_spelling

abbrev value_parts : Term × List (Name × Term) → List ℕ
value_parts = both IsStorableTerm term_spelling (IsShortList IsStorablePair) pairs_spelling

abbrev IsValue : Term × List (Name × Term) → Type 0
IsValue = AreBoth IsStorableTerm term_spelling (IsShortList IsStorablePair) pairs_spelling

abbrev column_parts : Name × (Term × List (Name × Term)) → List ℕ
column_parts = both IsStorableName name_spelling IsValue value_parts

abbrev IsColumn : Name × (Term × List (Name × Term)) → Type 0
IsColumn = AreBoth IsStorableName name_spelling IsValue value_parts

pub no_other : (bytes behind : List ℕ) (columns : List Name) → IsShortList IsStorableName columns → bytes ≡ names_spelling columns ++ behind
    → NoneStands IsStorableName name_spelling behind → NoneStands IsStorableTie tie_spelling bytes
no_other bytes behind columns f e none (a, o, b) rest fits k =
    no_second (IsShortList IsStorableName) names_spelling IsOther other_spelling names_front bytes behind columns f e
    (no_first IsStorableName name_spelling (IsShortList IsStorableName) names_spelling behind none) (a, (o, b)) rest (fits.0, (fits.1, fits.2)) k

pub no_others : (bytes behind next : List ℕ) (columns : List Name) (other : Name) → IsShortList IsStorableName columns → bytes ≡ names_spelling columns ++ behind
    → IsStorableName other → behind ≡ name_spelling other ++ next
    → NoneStands (IsShortList IsStorableName) names_spelling next → NoneStands IsStorableTie tie_spelling bytes
no_others bytes behind next columns other f e g h none (a, o, b) rest fits k =
    no_second (IsShortList IsStorableName) names_spelling IsOther other_spelling names_front bytes behind columns f e
    (no_second IsStorableName name_spelling (IsShortList IsStorableName) names_spelling name_front behind next other g h none)
    (a, (o, b)) rest (fits.0, (fits.1, fits.2)) k

pub tie_front : NoneBegins IsStorableTie tie_spelling
tie_front (a, o, b) (c, p, d) x y f g e =
    let same = both_front (IsShortList IsStorableName) names_spelling IsOther other_spelling names_front
    (both_front IsStorableName name_spelling (IsShortList IsStorableName) names_spelling name_front names_front)
    (a, (o, b)) (c, (p, d)) x y (f.0, (f.1, f.2)) (g.0, (g.1, g.2)) e in
    (λ i. ((same.0 i).0, (same.0 i).1.0, (same.0 i).1.1), same.1)

pub no_column : (bytes behind : List ℕ) (relation : Name) → IsStorableName relation → bytes ≡ name_spelling relation ++ behind
    → NoneStands IsStorableName name_spelling behind → NoneStands IsStorableAssignment assignment_spelling bytes
no_column bytes behind relation f e none (r, c, t, p) rest fits k =
    no_second IsStorableName name_spelling IsColumn column_parts name_front bytes behind relation f e
    (no_first IsStorableName name_spelling IsValue value_parts behind none) (r, (c, (t, p))) rest (fits.0, (fits.1, (fits.2, fits.3))) k

pub no_term : (bytes behind next : List ℕ) (relation column : Name) → IsStorableName relation → bytes ≡ name_spelling relation ++ behind
    → IsStorableName column → behind ≡ name_spelling column ++ next
    → NoneStands IsStorableTerm term_spelling next → NoneStands IsStorableAssignment assignment_spelling bytes
no_term bytes behind next relation column f e g h none (r, c, t, p) rest fits k =
    no_second IsStorableName name_spelling IsColumn column_parts name_front bytes behind relation f e
    (no_second IsStorableName name_spelling IsValue value_parts name_front behind next column g h
    (no_first IsStorableTerm term_spelling (IsShortList IsStorablePair) pairs_spelling next none))
    (r, (c, (t, p))) rest (fits.0, (fits.1, (fits.2, fits.3))) k

pub no_pairs : (bytes behind next last : List ℕ) (relation column : Name) (term : Term) → IsStorableName relation → bytes ≡ name_spelling relation ++ behind
    → IsStorableName column → behind ≡ name_spelling column ++ next → IsStorableTerm term → next ≡ term_spelling term ++ last
    → NoneStands (IsShortList IsStorablePair) pairs_spelling last → NoneStands IsStorableAssignment assignment_spelling bytes
no_pairs bytes behind next last relation column term f e g h i j none (r, c, t, p) rest fits k =
    no_second IsStorableName name_spelling IsColumn column_parts name_front bytes behind relation f e
    (no_second IsStorableName name_spelling IsValue value_parts name_front behind next column g h
    (no_second IsStorableTerm term_spelling (IsShortList IsStorablePair) pairs_spelling term_front next last term i j none))
    (r, (c, (t, p))) rest (fits.0, (fits.1, (fits.2, fits.3))) k

-- the parts of an assignment, found one behind the other
pub found_assignment : (bytes behind next last rest : List ℕ) (relation column : Name) (term : Term) (pairs : List (Name × Term))
    → bytes ≡ name_spelling relation ++ behind → behind ≡ name_spelling column ++ next → next ≡ term_spelling term ++ last → last ≡ pairs_spelling pairs ++ rest
    → bytes ≡ assignment_spelling (relation, column, term, pairs) ++ rest
found_assignment bytes behind next last rest relation column term pairs e f g h =
    found_both IsStorableName name_spelling IsColumn column_parts bytes behind rest relation (column, (term, pairs)) e
    (found_both IsStorableName name_spelling IsValue value_parts behind next rest column (term, pairs) f
    (found_both IsStorableTerm term_spelling (IsShortList IsStorablePair) pairs_spelling next last rest term pairs g h))

pub assignment_front : NoneBegins IsStorableAssignment assignment_spelling
assignment_front (r, c, t, p) (s, d, u, q) x y f g e =
    let same = both_front IsStorableName name_spelling IsColumn column_parts name_front
    (both_front IsStorableName name_spelling IsValue value_parts name_front
    (both_front IsStorableTerm term_spelling (IsShortList IsStorablePair) pairs_spelling term_front pairs_front))
    (r, (c, (t, p))) (s, (d, (u, q))) x y (f.0, (f.1, (f.2, f.3))) (g.0, (g.1, (g.2, g.3))) e in
    (λ i. ((same.0 i).0, (same.0 i).1.0, (same.0 i).1.1.0, (same.0 i).1.1.1), same.1)

-- behind the first byte of an action its parts have to stand
pub no_insert : (bytes body : List ℕ) → bytes ≡ 1 ∷ body → NoneStands IsInsert insert_parts body → NoneStands IsStorableAction action_spelling bytes
no_insert bytes body e none (Insert relation terms) rest f k = none (relation, terms) rest f (cc)
no_insert bytes body e none (Delete relation pairs) rest f k = cc
no_insert bytes body e none (Set relation column term pairs) rest f k = cc
no_insert bytes body e none (Add relation column term pairs) rest f k = cc

pub no_delete : (bytes body : List ℕ) → bytes ≡ 2 ∷ body → NoneStands IsDelete delete_parts body → NoneStands IsStorableAction action_spelling bytes
no_delete bytes body e none (Delete relation pairs) rest f k = none (relation, pairs) rest f (cc)
no_delete bytes body e none (Insert relation terms) rest f k = cc
no_delete bytes body e none (Set relation column term pairs) rest f k = cc
no_delete bytes body e none (Add relation column term pairs) rest f k = cc

pub no_set : (bytes body : List ℕ) → bytes ≡ 3 ∷ body → NoneStands IsStorableAssignment assignment_spelling body → NoneStands IsStorableAction action_spelling bytes
no_set bytes body e none (Set relation column term pairs) rest f k = none (relation, column, term, pairs) rest f (cc)
no_set bytes body e none (Insert relation terms) rest f k = cc
no_set bytes body e none (Delete relation pairs) rest f k = cc
no_set bytes body e none (Add relation column term pairs) rest f k = cc

pub no_add : (bytes body : List ℕ) → bytes ≡ 4 ∷ body → NoneStands IsStorableAssignment assignment_spelling body → NoneStands IsStorableAction action_spelling bytes
no_add bytes body e none (Add relation column term pairs) rest f k = none (relation, column, term, pairs) rest f (cc)
no_add bytes body e none (Insert relation terms) rest f k = cc
no_add bytes body e none (Delete relation pairs) rest f k = cc
no_add bytes body e none (Set relation column term pairs) rest f k = cc

pub action_front : NoneBegins IsStorableAction action_spelling
action_front (Insert r t) (Insert s u) x y f g e =
    let same = both_front IsStorableName name_spelling (IsShortList IsStorableTerm) terms_spelling name_front terms_front (r, t) (s, u) x y f g (cc) in
    (ap (λ (p : Name × List Term). Insert p.0 p.1) same.0, same.1)
action_front (Delete r t) (Delete s u) x y f g e =
    let same = both_front IsStorableName name_spelling (IsShortList IsStorablePair) pairs_spelling name_front pairs_front (r, t) (s, u) x y f g (cc) in
    (ap (λ (p : Name × List (Name × Term)). Delete p.0 p.1) same.0, same.1)
action_front (Set r c t p) (Set s d u q) x y f g e =
    let same = assignment_front (r, c, t, p) (s, d, u, q) x y f g (cc) in
    (ap (λ (a : Name × Name × Term × List (Name × Term)). Set a.0 a.1 a.2 a.3) same.0, same.1)
action_front (Add r c t p) (Add s d u q) x y f g e =
    let same = assignment_front (r, c, t, p) (s, d, u, q) x y f g (cc) in
    (ap (λ (a : Name × Name × Term × List (Name × Term)). Add a.0 a.1 a.2 a.3) same.0, same.1)
action_front _ _ x y f g e = absurd (cc)
