-- What commands are that a line spells.
use Rattle.std.proofs.Common.{◌≡◌, ◌≤◌, ℕ, zero, suc, codes, inl, inr, false, List, [], ◌∷◌, ◌++◌, length, refl, subst, arith}
use Rattle.std.specs.Prelude.{All}
use Rattle.std.proofs.lemmas.List.Elements.{All-nil, All-cons, All-head, All-tail}
use Rattle.sb_value.specs.declared.schema.Column.{Column}
use Rattle.sb_value.specs.declared.schema.Kind.{Kind}
use Rattle.sb_value.specs.declared.schema.Kind.TheVariants as kind
use Rattle.sb_value.specs.declared.value.Value.{Value}
use Rattle.sb_value.specs.declared.value.Value.TheVariants as value
use Rattle.sb_pred.specs.declared.predicate.Term.{Term}
use Rattle.sb_pred.specs.declared.predicate.Term.TheVariants.{Const, New, Old}
use Rattle.sb_rule.specs.declared.rule.Side.TheVariants.{Main, Mirror}
use Rattle.sb_rule.specs.declared.action.Action.{Action}
use Rattle.sb_rule.specs.declared.action.Action.TheVariants as action
use Rattle.sb_rule.specs.declared.rule.Rule.{Rule}
use Rattle.sb_rule.specs.declared.rule.Rule.TheVariants.{TreeIndex, HashIndex, JoinIndex, Stats, Check, Refers, Trigger, Foreign}
use Rattle.sb_language.specs.Lang.{◌⨾◌, more_items}
use Rattle.sb_plain.specs.declared.command.Command.{Command}
use Rattle.sb_plain.specs.declared.command.Command.TheVariants as command
use Rattle.sb_plain.specs.Printing.{is_mirror}
use Rattle.sb_tokens.specs.declared.token.Sign.TheVariants.{Comma}
use Rattle.sb_tokens.specs.declared.token.Token.{Token}
use Rattle.sb_tokens.specs.declared.token.Token.TheVariants as token
use Rattle.sb_tokens.specs.declared.token.Ending.TheVariants.{Whole}
use Rattle.sb_tokens.specs.Rows.{tokens_of}
use Rattle.sb_grammar.specs.Columns.{Item, Says, Bad, IsItem}
use Rattle.sb_grammar.specs.Grammar.{Piece, word, name, constant, listed, place, constant_term, full_term, matching_action, triggered, attachment, text_limit, kind_with, column, Spells}
use Rattle.sb_lawful.specs.Laws.{IsDotless}
use Rattle.sb_said.specs.Laws.{LinesAreWritten, ItemsAreWritten, FirstItemsAreWritten}
use Rattle.sb_said.specs.Written.{IsWrittenValue, HasWrittenValue, PutsWritten, RulePutsWritten, IsWrittenAction, IsLimited, IsWritten, IsWrittenItem}
use Rattle.sb_said.proofs.Fronts.{IsPlain, row_plain}

-- ---- one piece behind the other
all_left : (xs ys : List Token) → All IsPlain (xs ++ ys) → All IsPlain xs
all_left [] ys all = All-nil IsPlain
all_left (x ∷ xs) ys all = All-cons IsPlain x xs (All-head IsPlain x (xs ++ ys) all) (all_left xs ys (All-tail IsPlain x (xs ++ ys) all))

all_right : (xs ys : List Token) → All IsPlain (xs ++ ys) → All IsPlain ys
all_right [] ys all = all
all_right (x ∷ xs) ys all = all_right xs ys (All-tail IsPlain x (xs ++ ys) all)

-- the tokens of the first, and of the second
first : {P Q : Piece} {tokens : List Token} (is : (P ⨾ Q) tokens) → All IsPlain tokens → All IsPlain is.front
first is all = all_left is.front is.back (subst (All IsPlain) is.whole all)

second : {P Q : Piece} {tokens : List Token} (is : (P ⨾ Q) tokens) → All IsPlain tokens → All IsPlain is.back
second is all = all_right is.front is.back (subst (All IsPlain) is.whole all)

-- a piece whose tokens are plain says this
abbrev Tells : Piece → Type 0 → Type 0
Tells P Q = (tokens : List Token) → P tokens → All IsPlain tokens → Q

-- ---- names and values
name_dotless : (text : List ℕ) → Tells (name text) (IsDotless text)
name_dotless text tokens is all = All-head IsPlain (token.Word text) [] (subst (All IsPlain) is.1 all)

place_dotless : (relation label : List ℕ) → Tells (place relation label) (IsDotless label)
place_dotless relation label tokens is all = name_dotless label is.front is.is_front (first is all)

constant_written : (v : Value) → Tells (constant v) (IsWrittenValue v)
constant_written (value.Int n) tokens is all = All-head IsPlain (token.Int n) [] (subst (All IsPlain) is all)
constant_written (value.Text s) tokens is all = All-head IsPlain (token.Text s) [] (subst (All IsPlain) is all)

full_written : (t : Term) → Tells (full_term t) (HasWrittenValue t)
full_written (Const v) tokens is all = constant_written v tokens is all
full_written (New column) tokens is all = tt
full_written (Old column) tokens is all = tt

constant_term_written : (t : Term) → Tells (constant_term t) (HasWrittenValue t)
constant_term_written (Const v) tokens is all = constant_written v tokens is all
constant_term_written (New column) tokens is all = absurd is
constant_term_written (Old column) tokens is all = absurd is

-- ---- lists of 1 to 16 items
record Are {A : Type 0} (Q : A → Type 0) (items : List A) : Type 0 where
  some : 1 ≤ length items
  few : length items ≤ 16
  each : All Q items

more_each : {A : Type 0} (sign : Token) (P : A → Piece) (Q : A → Type 0) → ((a : A) → Tells (P a) (Q a)) → (n : ℕ) (items : List A) → Tells (more_items n sign P items) (All Q items)
more_each sign P Q each n [] tokens is all = All-nil Q
more_each sign P Q each zero (item ∷ items) tokens is all = absurd is
more_each sign P Q each (suc n) (item ∷ items) tokens is all =
    let behind : All IsPlain is.back = second is all in
    All-cons Q item items (each item is.is_back.front is.is_back.is_front (first is.is_back behind))
    (more_each sign P Q each n items is.is_back.back is.is_back.is_back (second is.is_back behind))

more_few : {A : Type 0} (sign : Token) (P : A → Piece) (n : ℕ) (items : List A) (tokens : List Token) → more_items n sign P items tokens → length items ≤ n
more_few sign P n [] tokens is = omega arith
more_few sign P zero (item ∷ items) tokens is = absurd is
more_few sign P (suc n) (item ∷ items) tokens is = let rest : length items ≤ n = more_few sign P n items is.is_back.back is.is_back.is_back in omega arith

listed_are : {A : Type 0} (P : A → Piece) (Q : A → Type 0) → ((a : A) → Tells (P a) (Q a)) → (items : List A) → Tells (listed P items) (Are Q items)
listed_are P Q each [] tokens is all = absurd is.is_back.is_front
listed_are P Q each (item ∷ items) tokens is all =
    let these = is.is_back.is_front in
    let plain : All IsPlain is.is_back.front = first is.is_back (second is all) in
    let rest : length items ≤ 15 = more_few (token.Sign Comma) P 15 items these.back these.is_back in
    record {
      some = omega arith;
      few = omega arith;
      each =
          All-cons Q item items (each item these.front these.is_front (first these plain))
          (more_each (token.Sign Comma) P Q each 15 items these.back these.is_back (second these plain));
    }

-- ---- columns
kind_limited : (k : Kind) (limit : ℕ) (tokens : List Token) → kind_with k limit tokens → limit ≤ 255
kind_limited kind.Int limit tokens is = omega (arith, is.0)
kind_limited kind.Text limit tokens is = of_limit is.back is.is_back
  where
    of_limit : (back : List Token) → text_limit limit back → limit ≤ 255
    of_limit back (inl none) = omega (arith, none.0)
    of_limit back (inr said) = said.is_back.is_front.1

column_limited : (c : Column) → Tells (column c) (IsLimited c)
column_limited c tokens is all = kind_limited c.kind c.limit is.back is.is_back

-- ---- actions
matching_written : (term : Term → Piece) → ((t : Term) → Tells (term t) (HasWrittenValue t)) → (a : Action) → Tells (matching_action term a) (IsWrittenAction a)
matching_written term each (action.Insert relation terms) tokens is all = absurd is
matching_written term each (action.Delete relation pairs) tokens is all = tt
matching_written term each (action.Set relation column new pairs) tokens is all =
    let named = is.is_back in
    let columned = named.is_back in
    let equal = columned.is_back in
    let at = equal.is_back in
    each new at.front at.is_front (first at (second equal (second columned (second named (second is all)))))
matching_written term each (action.Add relation column new pairs) tokens is all = tt

triggered_written : (a : Action) → Tells (triggered a) (PutsWritten a)
triggered_written (action.Insert relation terms) tokens is all =
    let named = is.is_back in
    let worded = named.is_back in
    let are : Are HasWrittenValue terms = listed_are full_term HasWrittenValue full_written terms worded.back worded.is_back (second worded (second named (second is all))) in
    (are.some, are.few, are.each)
triggered_written (action.Delete relation pairs) tokens is all = tt
triggered_written (action.Set relation column new pairs) tokens is all = matching_written full_term full_written (action.Set relation column new pairs) tokens is all
triggered_written (action.Add relation column new pairs) tokens is all = tt

-- ---- attachments
placed : {Q : Piece} (text relation label : List ℕ) → Tells (word text ⨾ place relation label ⨾ Q) (IsDotless label)
placed text relation label tokens is all = place_dotless relation label is.is_back.front is.is_back.is_front (first is.is_back (second is all))

attached : (relation label : List ℕ) (rule : Rule) → Tells (attachment relation label rule) (IsDotless label × (is_mirror rule ≡ false) × RulePutsWritten rule)
attached relation label (TreeIndex columns unique) tokens is all = (placed (codes "treeindex") relation label tokens is all, refl, tt)
attached relation label (HashIndex columns) tokens is all = (placed (codes "hashindex") relation label tokens is all, refl, tt)
attached relation label (JoinIndex Main columns other others) tokens is all = (placed (codes "joinindex") relation label tokens is all, refl, tt)
attached relation label (JoinIndex Mirror columns other others) tokens is all = absurd is
attached relation label (Stats column low width) tokens is all = (placed (codes "stats") relation label tokens is all, refl, tt)
attached relation label (Check pred deferred) tokens is all = (placed (codes "check") relation label tokens is all, refl, tt)
attached relation label (Refers Main columns other others how deferred) tokens is all = (placed (codes "refers") relation label tokens is all, refl, tt)
attached relation label (Refers Mirror columns other others how deferred) tokens is all = absurd is
attached relation label (Trigger on pred act deferred) tokens is all =
    let at = is.is_back in
    let after = at.is_back in
    let event = after.is_back in
    let when = event.is_back in
    let test = when.is_back in
    let does = test.is_back in
    let done = does.is_back in
    let plain : All IsPlain done.front = first done (second does (second test (second when (second event (second after (second at (second is all))))))) in
    (placed (codes "trigger") relation label tokens is all, refl, triggered_written act done.front done.is_front plain)
attached relation label (Foreign code desc) tokens is all =
    let coded = is.is_back in
    let at = coded.is_back in
    (place_dotless relation label at.front at.is_front (first at (second coded (second is all))), refl, tt)

-- ---- commands
spelled : (c : Command) → Tells (Spells c) (IsWritten c)
spelled (command.Create relation code schema key) tokens is all =
    let named = is.is_back in
    let using = named.is_back in
    let methods = using.is_back in
    let columns = methods.is_back in
    let behind : All IsPlain is.back = second is all in
    let plain : All IsPlain columns.front = first columns (second methods (second using (second named behind))) in
    let are : Are IsLimited schema = listed_are column IsLimited column_limited schema columns.front columns.is_front plain in
    (name_dotless relation named.front named.is_front (first named behind), are.each)
spelled (command.Attach relation label rule) tokens is all = attached relation label rule is.back is.is_back (second is all)
spelled (command.Detach relation label) tokens is all = place_dotless relation label is.back is.is_back (second is all)
spelled (command.Insert relation values) tokens is all =
    let named = is.is_back in
    let worded = named.is_back in
    let are : Are IsWrittenValue values = listed_are constant IsWrittenValue constant_written values worded.back worded.is_back (second worded (second named (second is all))) in
    record { some = are.some; few = are.few; each = are.each }
spelled (command.Update relation at values) tokens is all =
    let named = is.is_back in
    let keyed = named.is_back in
    let worded = keyed.is_back in
    let are : Are IsWrittenValue values =
    listed_are constant IsWrittenValue constant_written values worded.back worded.is_back (second worded (second keyed (second named (second is all)))) in
    record { some = are.some; few = are.few; each = are.each }
spelled (command.Act act) tokens is all = matching_written constant_term constant_term_written act tokens is all
spelled _ tokens is all = tt

-- ---- lines
pub line-written : LinesAreWritten
line-written line c is = spelled c (tokens_of is.tokens) is.spelled (row_plain 0 line is.tokens (Whole is.column) is.is_row)

item_written : (line : List ℕ) (item : Item) → IsItem line item → IsWrittenItem item
item_written line (Says c) is = line-written line c is.1
item_written line (Bad column) is = tt

pub items-written : ItemsAreWritten
items-written [] [] are = All-nil IsWrittenItem
items-written [] (item ∷ items) are = absurd are
items-written (line ∷ lines) [] are = absurd are
items-written (line ∷ lines) (item ∷ items) are = All-cons IsWrittenItem item items (item_written line item are.0) (items-written lines items are.1)

pub first-written : FirstItemsAreWritten
first-written lines items are = items-written are.first items are.are
