-- What commands read, by the relation that is there.
use Rattle.std.proofs.Common.{◌≡◌, ℕ, true, List, [], Option, Some, None, is_some, option_map, sym, ap, subst, ◌∙◌}
use Rattle.sb_value.specs.declared.value.Value.{Value}
use Rattle.sb_value.specs.declared.schema.Column.{Column}
use Rattle.sb_relation.specs.Db
use Rattle.sb_relation.specs.Db.{Key, Name, Rows, Relation, Db as Database, relation_at, row_at, rows_at, schema_at}
use Rattle.sb_fold.specs.Building.{rule_at}
use Rattle.sb_fold.specs.Extensions.{Extensions}
use Rattle.sb_plain.specs.declared.command.Command.{Command}
use Rattle.sb_plain.specs.declared.command.Command.TheVariants as command
use Rattle.sb_plain.specs.declared.reply.Reply.{Reply}
use Rattle.sb_plain.specs.declared.reply.Reply.TheVariants.{Lines as Lined, Rows as Rowed}
use Rattle.sb_plain.specs.Printing.{shown}
use Rattle.sb_plain.specs.Reading.{index_columns, looked_up, read, row_reply, rows_between}
use Rattle.sb_plain.specs.Refusing.{is_lookup, is_range}
use Rattle.sb_reads.specs.Reads.{IsThere, MayRead, relation_read}
use Rattle.sb_reads.specs.Stores.{attachment_in}

-- ---- what is there of a relation
pub rows-there : (db : Database) (n : Name) (r : Relation) → relation_at db n ≡ Some r → rows_at db n ≡ r.rows
rows-there db n r there = ap (λ (o : Option Relation). let rows : Rows = elim o [ None ↦ [] | Some r ↦ r.rows ] in rows) there

pub schema-there : (db : Database) (n : Name) (r : Relation) → relation_at db n ≡ Some r → schema_at db n ≡ r.schema
schema-there db n r there = ap (λ (o : Option Relation). let schema : List Column = elim o [ None ↦ [] | Some r ↦ r.schema ] in schema) there

abbrev attached_in : Option Relation → List Db.Attached
attached_in o = elim o [ None ↦ [] | Some r ↦ r.attachments ]

pub rule-there : (db : Database) (n : Name) (r : Relation) (name : Name) → relation_at db n ≡ Some r → rule_at db n name ≡ attachment_in r name
rule-there db n r name there = ap (λ (o : Option Relation). attachment_in (record r { attachments = attached_in o }) name) there

same_Some : {A : Type 0} (a b : A) → Some a ≡ Some b → a ≡ b
same_Some a b e = cc

-- ---- a command that asks how a relation was made
pub shown-there : (relation : Name) (o : Option Relation) (lines : List (List ℕ)) → Some lines ≡ option_map (λ r. shown relation (Some r)) o → lines ≡ shown relation o
shown-there relation None lines is = absurd (cc)
shown-there relation (Some r) lines is = same_Some lines (shown relation (Some r)) is

pub shown-absent : (relation : Name) (o : Option Relation) → None ≡ option_map (λ r. shown relation (Some r)) o → is_some o ≡ true → ⊥
shown-absent relation None is there = cc
shown-absent relation (Some r) is there = cc

pub read-show : (ext : Extensions) (db : Database) (c : Command) (relation : Name) (lines : List (List ℕ)) → c ≡ command.Show relation → lines ≡ shown relation (relation_at db relation) → Some (Lined lines) ≡ read ext db c
read-show ext db c relation lines is says = ap (λ (ls : List (List ℕ)). Some (Lined ls)) says ∙ ap (read ext db) (sym is)

pub may-show : (db : Database) (c : Command) (relation : Name) → c ≡ command.Show relation → MayRead db c → IsThere db relation
may-show db c relation is may = subst (MayRead db) is may

-- ---- commands that read one
pub there-read : (db : Database) (c : Command) (n : Name) → relation_read c ≡ Some n → MayRead db c → IsThere db n
there-read db (command.Get r at) n is may = subst (IsThere db) (same_Some r n is) may
there-read db (command.Scan r after limit) n is may = subst (IsThere db) (same_Some r n is) may
there-read db (command.Lookup r name values) n is may = subst (IsThere db) (same_Some r n is) may.0
there-read db (command.Range r name low high) n is may = subst (IsThere db) (same_Some r n is) may.0
there-read db (command.Entries r name) n is may = subst (IsThere db) (same_Some r n is) may.0
there-read db c n is may = absurd (cc)

pub read-get : (ext : Extensions) (db : Database) (c : Command) (n : Name) (r : Relation) (at : Key) (x : Reply) (rel : Name) → relation_read c ≡ Some n → c ≡ command.Get rel at → relation_at db n ≡ Some r →
    x ≡ row_reply n at (row_at r.rows at) → Some x ≡ read ext db c
read-get ext db c n r at x rel reads is there says =
    let named = same_Some rel n (sym (ap relation_read is) ∙ reads) in
    ap Some says ∙ ap (λ (rows : Rows). Some (row_reply n at (row_at rows at))) (sym (rows-there db n r there)) ∙ ap (λ (m : Name). Some (row_reply m at (row_at (rows_at db m) at))) (sym named) ∙ ap (read ext db) (sym is)

pub read-lookup : (ext : Extensions) (db : Database) (c : Command) (n : Name) (r : Relation) (name : Name) (values : List Value) (x : Reply) (rel : Name) → relation_read c ≡ Some n → c ≡ command.Lookup rel name values →
    relation_at db n ≡ Some r → x ≡ Rowed (looked_up db n (index_columns (attachment_in r name)) values) → Some x ≡ read ext db c
read-lookup ext db c n r name values x rel reads is there says =
    let named = same_Some rel n (sym (ap relation_read is) ∙ reads) in
    ap Some says ∙ ap (λ o. Some (Rowed (looked_up db n (index_columns o) values))) (sym (rule-there db n r name there))
    ∙ ap (λ (m : Name). Some (Rowed (looked_up db m (index_columns (rule_at db m name)) values))) (sym named) ∙ ap (read ext db) (sym is)

pub may-lookup : (db : Database) (c : Command) (n : Name) (r : Relation) (name : Name) (values : List Value) (rel : Name) → relation_read c ≡ Some n → c ≡ command.Lookup rel name values → relation_at db n ≡ Some r →
    MayRead db c → is_lookup r.schema (attachment_in r name) values ≡ true
may-lookup db c n r name values rel reads is there may =
    let named = same_Some rel n (sym (ap relation_read is) ∙ reads) in
    (λ i. is_lookup (sym (schema-there db n r there) i) (sym (rule-there db n r name there) i) values) ∙ ap (λ (m : Name). is_lookup (schema_at db m) (rule_at db m name) values) (sym named) ∙ (subst (MayRead db) is may).1

pub read-range : (ext : Extensions) (db : Database) (c : Command) (n : Name) (r : Relation) (name : Name) (low high : List Value) (x : Reply) (rel : Name) → relation_read c ≡ Some n → c ≡ command.Range rel name low high →
    relation_at db n ≡ Some r → x ≡ Rowed (rows_between db n (index_columns (attachment_in r name)) low high) → Some x ≡ read ext db c
read-range ext db c n r name low high x rel reads is there says =
    let named = same_Some rel n (sym (ap relation_read is) ∙ reads) in
    ap Some says ∙ ap (λ o. Some (Rowed (rows_between db n (index_columns o) low high))) (sym (rule-there db n r name there))
    ∙ ap (λ (m : Name). Some (Rowed (rows_between db m (index_columns (rule_at db m name)) low high))) (sym named) ∙ ap (read ext db) (sym is)

pub may-range : (db : Database) (c : Command) (n : Name) (r : Relation) (name : Name) (low high : List Value) (rel : Name) → relation_read c ≡ Some n → c ≡ command.Range rel name low high → relation_at db n ≡ Some r →
    MayRead db c → is_range r.schema (attachment_in r name) low ≡ true
may-range db c n r name low high rel reads is there may =
    let named = same_Some rel n (sym (ap relation_read is) ∙ reads) in
    (λ i. is_range (sym (schema-there db n r there) i) (sym (rule-there db n r name there) i) low) ∙ ap (λ (m : Name). is_range (schema_at db m) (rule_at db m name) low) (sym named) ∙ (subst (MayRead db) is may).1

pub may-entries : (db : Database) (c : Command) (n : Name) (r : Relation) (name : Name) (rel : Name) → relation_read c ≡ Some n → c ≡ command.Entries rel name → relation_at db n ≡ Some r → MayRead db c → is_some (attachment_in r name) ≡ true
may-entries db c n r name rel reads is there may =
    let named = same_Some rel n (sym (ap relation_read is) ∙ reads) in
    ap is_some (sym (rule-there db n r name there)) ∙ ap (λ (m : Name). is_some (rule_at db m name)) (sym named) ∙ (subst (MayRead db) is may).1
