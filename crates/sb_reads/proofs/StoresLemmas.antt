-- Open relations of a store, and their attachments by name.
use Rattle.std.proofs.Common.{◌≡◌, ℕ, ◌==◌, Bool, true, false, cond, List, [], ◌∷◌, ◌++◌, map, All, Option, Some, None, option_map, is_some, bytes_eq, refl, sym, ap, subst, ◌∙◌}
use Rattle.std.specs.List.{filter, filter_map, find}
use Rattle.std.specs.Option.{option_and_then}
use Rattle.std.proofs.lemmas.List.Elements.{All-head, All-tail}
use Rattle.sb_value.specs.declared.value.Value.{Value}
use Rattle.sb_value.specs.declared.schema.Column.{Column}
use Rattle.sb_rule.specs.declared.rule.Rule.{Rule}
use Rattle.sb_rule.specs.declared.rule.Rule.TheVariants.{TreeIndex, HashIndex, JoinIndex}
use Rattle.sb_rule.specs.Spelling.{rule_code}
use Rattle.sb_relation.specs.declared.image.Image.{Image}
use Rattle.sb_relation.specs.Content.{Content}
use Rattle.sb_relation.specs.Db
use Rattle.sb_relation.specs.Db.{Key, Name, Rows, Relation, relation_at, rows_at, schema_at}
use Rattle.sb_relation.specs.Foreign.{AttachRules, attach_rules}
use Rattle.sb_relation.specs.Images.{Entry, image, index_entries, page_image}
use Rattle.sb_fold.specs.Extensions.{Extensions, box_of}
use Rattle.sb_ctx.specs.declared.instance.Instance.{Instance}
use Rattle.sb_ctx.specs.Attachment.{Attachment}
use Rattle.sb_ctx.specs.AttachAnswers.{Answers, Holds, NextIs, content_over, is_entry_above}
use Rattle.sb_ctx.specs.declared.calls.AttachCall.TheVariants as call
use Rattle.sb_ctx.specs.declared.moves.Move.{Move}
use Rattle.sb_ctx.specs.declared.moves.Move.TheVariants.{Need, Fresh, After, Find, Broken, NoMemory, Entry as Entered, Sums as Summed, End}
use Rattle.sb_ctx.specs.View.{View}
use Rattle.sb_forms.specs.Pages.{Pages}
use Rattle.sb_registry.specs.Boxes.{Meanings, attachment_of, boxes_of}
use Rattle.sb_registry.specs.Live.{IsLiveRule}
use Rattle.sb_drive.specs.Slots.{Slots, owned}
use Rattle.sb_rows.specs.Live.{HasRows}
use Rattle.sb_catalog.specs.declared.descriptor.Attached.{Attached}
use Rattle.sb_catalog.specs.declared.descriptor.Descriptor.{Descriptor}
use Rattle.sb_catalog.specs.Descriptors.{described, standing}
use Rattle.sb_standing.specs.Instances.{table_instance}
use Rattle.sb_standing.specs.Standing.{EachRule, Keeps, KeepsRule, KeepsRules, has_no_join, is_join}
use Rattle.sb_standing.specs.Tables.{Kept, KeepsTable, db_of, kept_at, table_of}
use Rattle.sb_standing.proofs.KeptLemmas.{kept_at-all, kept_at-name, relation_at-kept, relation_at-there}
use Rattle.sb_standing.proofs.SplitLemmas.{no_joins}
use Rattle.sb_standing.proofs.StandLemmas.{StandRules-keeps}
use Rattle.sb_asking.specs.OpenRelation.{OpenRelation}
use Rattle.sb_asking.specs.Opened.{IsDurable, IsOpen, rule_of}
use Rattle.sb_plain.specs.Reading.{image_at, index_columns}
use Rattle.sb_plain.specs.Refusing.{is_lookup, is_range}
use Rattle.sb_asking.specs.Calls.{IsFinal}
use Rattle.sb_value.specs.Code.{ordered_code}
use Rattle.sb_plain.specs.Reading.{is_between, rows_between}
use Rattle.sb_reads.specs.Entries.{IsEntryOrEnd, IsSums, entry_in, is_within, sums_in}
use Rattle.sb_reads.specs.Reads.{IsThere, row_of}
use Rattle.sb_reads.proofs.EntriesLemmas.{within-between}
use Rattle.sb_reads.proofs.ReadsLemmas.{rows-there}
use Rattle.sb_reads.specs.Stores.{HasContent, KeepsOpen, attachment_in, columns_of, instance_beside}

same_Some : {A : Type 0} (a b : A) → Some a ≡ Some b → a ≡ b
same_Some a b e = cc

-- ---- a relation that was opened
described_at : (o : Option Kept) (d : Descriptor) → Some d ≡ option_map (λ (k : Kept). k.descriptor) o → (k : Kept) × (o ≡ Some k) × (d ≡ k.descriptor)
described_at None d is = absurd (cc)
described_at (Some k) d is = (k, refl, same_Some d k.descriptor is)

pub KeepsOpen-opened : (m : Meanings) (root : ℕ) (s : Slots) (gone : List ℕ) (kept : List Kept) (name : Name) (o : OpenRelation) → Keeps m IsDurable root s gone kept → IsOpen m o → o.name ≡ name →
    Some o.descriptor ≡ option_map (λ (k : Kept). k.descriptor) (kept_at kept name) → (r : Relation) × KeepsOpen m root s kept r o
KeepsOpen-opened m root s gone kept name o keeps opened named found = (
  k.relation,
  record {
    tables = keeps.tables;
    stand = StandRules-keeps m IsDurable root s gone kept keeps;
    there = ap (relation_at (db_of kept)) named ∙ relation_at-there kept name k at.1;
    schema = ap (λ (inst : Instance). inst.schema) same ∙ table.is.schema;
    rows = subst (λ (inst : Instance). HasRows m s inst k.relation.rows) (sym same) table.rows;
    alike = ap (λ (d : Descriptor). map described d.attachments) at.2 ∙ table.is.attachments;
    rules = subst (λ (h : Name × Descriptor). EachRule (λ d a. KeepsRule m s (rule_of h.0 h.1 d) a (db_of kept)) h.1.attachments k.relation.attachments) header
        (kept_at-all (KeepsRules m IsDurable s (db_of kept)) kept name k keeps.rules at.1);
    joinless = no_joins k.relation.attachments (kept_at-all (λ k. has_no_join k ≡ true) kept name k keeps.joinless at.1);
  },
)
  where
    at : (k : Kept) × (kept_at kept name ≡ Some k) × (o.descriptor ≡ k.descriptor)
    at = described_at (kept_at kept name) o.descriptor found

    k : Kept
    k = at.0

    table : KeepsTable m IsDurable s k
    table = kept_at-all (KeepsTable m IsDurable s) kept name k keeps.tables.each at.1

    names : o.name ≡ k.name
    names = named ∙ sym (kept_at-name kept name k at.1)

    header : ◌≡◌ {A = Name × Descriptor} (k.name, k.descriptor) (o.name, o.descriptor)
    header = λ i. (sym names i, sym at.2 i)

    same : o.table ≡ table_of IsDurable k
    same = opened.table ∙ (λ i. table_instance true (names i) (at.2 i))

-- there is none
pub not-there : (kept : List Kept) (name : Name) → is_some (kept_at kept name) ≡ false → IsThere (db_of kept) name → ⊥
not-there kept name none there = by (kept_at kept name) none (ap is_some (sym (relation_at-kept kept name)) ∙ there)
  where
    by : (o : Option Kept) → is_some o ≡ false → is_some (option_map (λ (k : Kept). k.relation) o) ≡ true → ⊥
    by None none there = cc
    by (Some k) none there = cc

-- ---- attachments by name
heads : {A : Type 0} (x y : A) (xs ys : List A) → x ∷ xs ≡ y ∷ ys → x ≡ y
heads x y xs ys is = cc

tails : {A : Type 0} (x y : A) (xs ys : List A) → x ∷ xs ≡ y ∷ ys → xs ≡ ys
tails x y xs ys is = cc

-- the columns of the one in the descriptor are those of the one in the database
abbrev pub columns_at : List Db.Attached → Name → Option (List Name)
columns_at others name = option_and_then (λ a. columns_of a.rule) (find (λ a. bytes_eq a.name name) others)

pub columns-alike : (ds : List Attached) (others : List Db.Attached) (name : Name) → map described ds ≡ map standing others →
    option_and_then (λ d. columns_of d.rule) (find (λ d. bytes_eq d.name name) ds) ≡ columns_at others name
columns-alike [] [] name alike = refl
columns-alike [] (a ∷ others) name alike = absurd (cc)
columns-alike (d ∷ ds) [] name alike = absurd (cc)
columns-alike (d ∷ ds) (a ∷ others) name alike =
    let same : described d ≡ standing a = heads (described d) (standing a) (map described ds) (map standing others) alike in
    let rest = columns-alike ds others name (tails (described d) (standing a) (map described ds) (map standing others) alike) in
    let names : bytes_eq d.name name ≡ bytes_eq a.name name = ap (λ (x : ℕ × Name × Rule). bytes_eq x.1 name) same in
    subst (λ b. option_and_then (λ d. columns_of d.rule) (cond (bytes_eq d.name name) (Some d) (find (λ d. bytes_eq d.name name) ds)) ≡ option_and_then (λ a. columns_of a.rule) (cond b (Some a) (find (λ a. bytes_eq a.name name) others))) names
    (by (bytes_eq d.name name) (ap (λ (x : ℕ × Name × Rule). columns_of x.2) same) rest)
  where
    by : (b : Bool) → columns_of d.rule ≡ columns_of a.rule → option_and_then (λ d. columns_of d.rule) (find (λ d. bytes_eq d.name name) ds) ≡ columns_at others name →
        option_and_then (λ d. columns_of d.rule) (cond b (Some d) (find (λ d. bytes_eq d.name name) ds)) ≡ option_and_then (λ a. columns_of a.rule) (cond b (Some a) (find (λ a. bytes_eq a.name name) others))
    by true columns rest = columns
    by false columns rest = rest

-- those that an index has
rule_columns : Rule → List Name
rule_columns rule = elim rule [ TreeIndex columns unique ↦ columns | HashIndex columns ↦ columns | _ ↦ [] ]

columns-rule : (rule : Rule) (columns : List Name) → columns_of rule ≡ Some columns → rule_columns rule ≡ columns
unfolding rule_columns
columns-rule (TreeIndex names unique) columns is = same_Some names columns is
columns-rule (HashIndex names) columns is = same_Some names columns is
columns-rule rule columns is = absurd (cc)

pub columns-index : (o : Option Db.Attached) (columns : List Name) → option_and_then (λ a. columns_of a.rule) o ≡ Some columns → index_columns o ≡ columns
unfolding rule_columns
columns-index None columns is = absurd (cc)
columns-index (Some a) columns is = columns-rule a.rule columns is

rule_looks : List Column → Rule → List Value → Bool
rule_looks schema rule values = is_lookup schema (Some (record { name = []; rule = rule; buckets = 0 })) values

looks-rule : (schema : List Column) (rule : Rule) (values : List Value) → rule_looks schema rule values ≡ true → columns_of rule ≡ None → ⊥
unfolding rule_looks
looks-rule schema (TreeIndex names unique) values looks none = cc
looks-rule schema (HashIndex names) values looks none = cc
looks-rule schema rule values looks none = cc

pub lookup-columns : (schema : List Column) (o : Option Db.Attached) (values : List Value) → is_lookup schema o values ≡ true → option_and_then (λ a. columns_of a.rule) o ≡ None → ⊥
unfolding rule_looks
lookup-columns schema None values looks none = cc
lookup-columns schema (Some a) values looks none = looks-rule schema a.rule values looks none

-- ---- an instance by the name of its attachment
pub record Named (P : Attached → Db.Attached → Type 0) (of : Attached → Instance) (others : List Db.Attached) (name : Name) (inst : Instance) : Type 0 where
  pub d : Attached
  pub a : Db.Attached
  pub is : inst ≡ of d
  pub found : find (λ x. bytes_eq x.name name) others ≡ Some a
  pub alike : described d ≡ standing a
  pub so : P d a

pub Named-beside : (P : Attached → Db.Attached → Type 0) (of : Attached → Instance) (ds : List Attached) (others : List Db.Attached) (name : Name) (inst : Instance) → EachRule P ds others → map described ds ≡ map standing others →
    instance_beside ds (map of ds) name ≡ Some inst → Named P of others name inst
Named-beside P of [] others name inst each alike is = absurd (cc)
Named-beside P of (d ∷ ds) [] name inst each alike is = absurd each
Named-beside P of (d ∷ ds) (a ∷ others) name inst each alike is =
    let same : described d ≡ standing a = heads (described d) (standing a) (map described ds) (map standing others) alike in
    by (bytes_eq d.name name) (sym (ap (λ (x : ℕ × Name × Rule). bytes_eq x.1 name) same)) same is
    (Named-beside P of ds others name inst each.1 (tails (described d) (standing a) (map described ds) (map standing others) alike))
  where
    by : (b : Bool) → bytes_eq a.name name ≡ b → described d ≡ standing a → cond b (Some (of d)) (instance_beside ds (map of ds) name) ≡ Some inst →
        (instance_beside ds (map of ds) name ≡ Some inst → Named P of others name inst) → Named P of (a ∷ others) name inst
    by true named same is rest = record {
      d = d;
      a = a;
      is = sym (same_Some (of d) inst is);
      found = ap (λ b. cond b (Some a) (find (λ (x : Db.Attached). bytes_eq x.name name) others)) named;
      alike = same;
      so = each.0;
    }
    by false named same is rest =
        let other = rest is in
        record {
          d = other.d;
          a = other.a;
          is = other.is;
          found = ap (λ b. cond b (Some a) (find (λ (x : Db.Attached). bytes_eq x.name name) others)) named ∙ other.found;
          alike = other.alike;
          so = other.so;
        }

-- there is none
pub unnamed-beside : (P : Attached → Db.Attached → Type 0) (of : Attached → Instance) (ds : List Attached) (others : List Db.Attached) (name : Name) → EachRule P ds others → map described ds ≡ map standing others →
    instance_beside ds (map of ds) name ≡ None → find (λ a. bytes_eq a.name name) others ≡ None
unnamed-beside P of [] [] name each alike is = refl
unnamed-beside P of [] (a ∷ others) name each alike is = absurd each
unnamed-beside P of (d ∷ ds) [] name each alike is = absurd each
unnamed-beside P of (d ∷ ds) (a ∷ others) name each alike is =
    let same : described d ≡ standing a = heads (described d) (standing a) (map described ds) (map standing others) alike in
    by (bytes_eq d.name name) (sym (ap (λ (x : ℕ × Name × Rule). bytes_eq x.1 name) same)) is
    (unnamed-beside P of ds others name each.1 (tails (described d) (standing a) (map described ds) (map standing others) alike))
  where
    by : (b : Bool) → bytes_eq a.name name ≡ b → cond b (Some (of d)) (instance_beside ds (map of ds) name) ≡ None →
        (instance_beside ds (map of ds) name ≡ None → find (λ (x : Db.Attached). bytes_eq x.name name) others ≡ None) → find (λ (x : Db.Attached). bytes_eq x.name name) (a ∷ others) ≡ None
    by true named is rest = absurd (cc)
    by false named is rest = ap (λ b. cond b (Some a) (find (λ (x : Db.Attached). bytes_eq x.name name) others)) named ∙ rest is

-- what is so of each instance is so of it
pub All-beside : (P : Instance → Type 0) (ds : List Attached) (rules : List Instance) (name : Name) (inst : Instance) → All P rules → instance_beside ds rules name ≡ Some inst → P inst
All-beside P [] rules name inst all is = absurd (cc)
All-beside P (d ∷ ds) [] name inst all is = absurd (cc)
All-beside P (d ∷ ds) (x ∷ rules) name inst all is = by (bytes_eq d.name name) is (All-beside P ds rules name inst (All-tail P x rules all))
  where
    by : (b : Bool) → cond b (Some x) (instance_beside ds rules name) ≡ Some inst → (instance_beside ds rules name ≡ Some inst → P inst) → P inst
    by true is rest = subst P (same_Some x inst is) (All-head P x rules all)
    by false is rest = rest is

-- ---- its content
All-found : (P : Db.Attached → Type 0) (p : Db.Attached → Bool) (others : List Db.Attached) (a : Db.Attached) → All P others → find p others ≡ Some a → P a
All-found P p [] a all is = absurd (cc)
All-found P p (x ∷ others) a all is = by (p x) is (All-found P p others a (All-tail P x others all))
  where
    by : (b : Bool) → cond b (Some x) (find p others) ≡ Some a → (find p others ≡ Some a → P a) → P a
    by true is rest = subst P (same_Some x a is) (All-head P x others all)
    by false is rest = rest is

-- it is the one in the database of this name, and its pages have its content
pub record IsRule (m : Meanings) (root : ℕ) (s : Slots) (kept : List Kept) (r : Relation) (o : OpenRelation) (name : Name) (inst : Instance) : Type 0 where
  pub a : Db.Attached
  pub found : attachment_in r name ≡ Some a
  pub joinless : is_join a.rule ≡ false
  pub box : Attachment
  pub coded : attachment_of (rule_code a.rule) m.attachments ≡ Some box
  pub content : Content
  pub entries : content.entries ≡ (page_image (Some box.rules) (db_of kept) o.name a.rule).entries
  pub sums : content.sums ≡ (page_image (Some box.rules) (db_of kept) o.name a.rule).sums
  pub has : HasContent m root s kept inst content

pub IsRule-named : (m : Meanings) (root : ℕ) (s : Slots) (kept : List Kept) (r : Relation) (o : OpenRelation) (name : Name) (inst : Instance) → KeepsOpen m root s kept r o → IsOpen m o →
    instance_beside o.descriptor.attachments o.rules.items name ≡ Some inst → IsRule m root s kept r o name inst
IsRule-named m root s kept r o name inst keeps opened is = record {
  a = at.a;
  found = at.found;
  joinless = All-found (λ a. is_join a.rule ≡ false) (λ a. bytes_eq a.name name) r.attachments at.a keeps.joinless at.found;
  box = at.so.box;
  coded = ap (λ (x : ℕ × Name × Rule). attachment_of x.0 m.attachments) (sym at.alike) ∙ at.so.live;
  content = content;
  entries = refl;
  sums = refl;
  has = subst (λ (i : Instance). HasContent m root s kept i content) (sym at.is)
      (record { tables = keeps.tables; stand = keeps.stand; box = at.so.box; live = at.so.live; law = at.so.law; holds = at.so.holds });
}
  where
    at : Named (λ d a. KeepsRule m s (rule_of o.name o.descriptor d) a (db_of kept)) (rule_of o.name o.descriptor) r.attachments name inst
    at = Named-beside (λ d a. KeepsRule m s (rule_of o.name o.descriptor d) a (db_of kept)) (rule_of o.name o.descriptor) o.descriptor.attachments r.attachments name inst keeps.rules keeps.alike
        (ap (λ (rules : List Instance). instance_beside o.descriptor.attachments rules name) (sym opened.rules) ∙ is)

    content : Content
    content = content_over at.so.box (rule_of o.name o.descriptor at.d) at.a.rule (db_of kept) at.a.buckets

pub unnamed : (m : Meanings) (root : ℕ) (s : Slots) (kept : List Kept) (r : Relation) (o : OpenRelation) (name : Name) → KeepsOpen m root s kept r o → IsOpen m o →
    instance_beside o.descriptor.attachments o.rules.items name ≡ None → attachment_in r name ≡ None
unnamed m root s kept r o name keeps opened is =
    unnamed-beside (λ d a. KeepsRule m s (rule_of o.name o.descriptor d) a (db_of kept)) (rule_of o.name o.descriptor) o.descriptor.attachments r.attachments name keeps.rules keeps.alike
    (ap (λ (rules : List Instance). instance_beside o.descriptor.attachments rules name) (sym opened.rules) ∙ is)

-- ---- images
page-image : (box : Option AttachRules) (db : Db.Db) (name : Name) (rule : Rule) → is_join rule ≡ false → page_image box db name rule ≡ image box db name rule
page-image box db name (JoinIndex side columns other others) joinless = absurd (cc)
page-image box db name rule joinless = refl

-- the live box of a code is the first of all of it
box-live : (code : ℕ) (live spare : List Attachment) (box : Attachment) → attachment_of code live ≡ Some box → attach_rules code (map (λ (x : Attachment). x.rules) (live ++ spare)) ≡ Some box.rules
box-live code [] spare box is = absurd (cc)
box-live code (x ∷ live) spare box is = by (x.rules.code == code) is (box-live code live spare box)
  where
    by : (b : Bool) → cond b (Some x) (attachment_of code live) ≡ Some box → (attachment_of code live ≡ Some box → attach_rules code (map (λ (y : Attachment). y.rules) (live ++ spare)) ≡ Some box.rules) →
        cond b (Some x.rules) (attach_rules code (map (λ (y : Attachment). y.rules) (live ++ spare))) ≡ Some box.rules
    by true is rest = ap (λ (y : Attachment). Some y.rules) (same_Some x box is)
    by false is rest = rest is

pub image-is : (m : Meanings) (root : ℕ) (s : Slots) (kept : List Kept) (r : Relation) (o : OpenRelation) (name : Name) (inst : Instance) (ext : Extensions) (x : Image) (rule : IsRule m root s kept r o name inst) → ext.boxes ≡ boxes_of m →
    x.entries ≡ rule.content.entries → x.sums ≡ rule.content.sums → x ≡ image_at ext (db_of kept) o.name (attachment_in r name)
image-is m root s kept r o name inst ext x rule boxes entries sums =
    whole
    ∙ page-image (Some rule.box.rules) (db_of kept) o.name rule.a.rule rule.joinless
    ∙ ap (λ (box : Option AttachRules). image box (db_of kept) o.name rule.a.rule) (sym boxed)
    ∙ ap (image_at ext (db_of kept) o.name) (sym rule.found)
  where
    whole : x ≡ page_image (Some rule.box.rules) (db_of kept) o.name rule.a.rule
    whole = λ i. record { entries = (entries ∙ rule.entries) i; sums = (sums ∙ rule.sums) i }

    boxed : box_of ext rule.a.rule ≡ Some rule.box.rules
    boxed = ap (λ b. attach_rules (rule_code rule.a.rule) b.attachments) boxes ∙ box-live (rule_code rule.a.rule) m.attachments m.spare_attachments rule.box rule.coded

-- a range is of a tree index, whose entries are those of its columns
range-rule : (box : Option AttachRules) (db : Db.Db) (name : Name) (schema : List Column) (rule : Rule) (label : Name) (buckets : ℕ) (values : List Value) → is_range schema (Some (record { name = label; rule = rule; buckets = buckets })) values ≡ true →
    (page_image box db name rule).entries ≡ index_entries (schema_at db name) (rule_columns rule) (rows_at db name)
unfolding rule_columns
range-rule box db name schema (TreeIndex columns unique) label buckets values is = refl
range-rule box db name schema rule label buckets values is = absurd (cc)

pub range-entries : (box : Option AttachRules) (db : Db.Db) (name : Name) (schema : List Column) (a : Db.Attached) (values : List Value) → is_range schema (Some a) values ≡ true →
    (page_image box db name a.rule).entries ≡ index_entries (schema_at db name) (index_columns (Some a)) (rows_at db name)
unfolding rule_columns
range-entries box db name schema a values is = range-rule box db name schema a.rule a.name a.buckets values is

-- with the rows of its entries these are the rows between two codes
pub ranged : (box : Option AttachRules) (db : Db.Db) (n : Name) (r : Relation) (o : Option Db.Attached) (a : Db.Attached) (low high : List Value) (es : List Entry) (rows : Rows) → relation_at db n ≡ Some r → o ≡ Some a →
    is_range r.schema o low ≡ true → es ≡ (page_image box db n a.rule).entries → rows ≡ filter_map (row_of r.rows) (filter (is_within (ordered_code low) (Some (ordered_code high))) es) → rows ≡ rows_between db n (index_columns o) low high
ranged box db n r o a low high es rows there found ranges same read =
    read ∙ ap (filter_map (row_of r.rows)) (within-between (ordered_code low) (ordered_code high) es) ∙ (λ i. filter_map (row_of (sym (rows-there db n r there) i)) (filter (λ (e : Entry). is_between low high e.0) (all i)))
  where
    all : es ≡ index_entries (schema_at db n) (index_columns o) (rows_at db n)
    all = same ∙ range-entries box db n r.schema a low (ap (λ (x : Option Db.Attached). is_range r.schema x low) (sym found) ∙ ranges) ∙ ap (λ (x : Option Db.Attached). index_entries (schema_at db n) (index_columns x) (rows_at db n)) (sym found)

-- ---- what its box answers
pub Holds-live : (m : Meanings) (root : ℕ) (s : Slots) (kept : List Kept) (inst : Instance) (content : Content) (live : IsLiveRule m inst) → HasContent m root s kept inst content → Holds live.box inst (owned s inst.owner) content
Holds-live m root s kept inst content live has = subst (λ (b : Attachment). Holds b inst (owned s inst.owner) content) (same_Some has.box live.box (sym has.live ∙ live.live)) has.holds

pub IsSums-final : (move : Move) → IsFinal call.Sums move → IsSums move
IsSums-final (Summed sums) is = tt
IsSums-final (Need n) is = absurd is.last
IsSums-final Fresh is = absurd is.last
IsSums-final (After low) is = absurd is.last
IsSums-final (Find relation columns values) is = absurd is.last
IsSums-final (Broken page) is = absurd is.last
IsSums-final NoMemory is = absurd is.last
IsSums-final move is = absurd is.may

pub sums-answered : (box : Attachment) (inst : Instance) (view : View) (P after : Pages) (move : Move) (content : Content) → IsSums move → Answers box inst call.Sums view P after move → Holds box inst P content → sums_in move ≡ content.sums
sums-answered box inst view P after (Summed sums) content is answers holds = ap sums_in (answers content holds)
sums-answered box inst view P after move content is answers holds = absurd is

pub IsEntryOrEnd-final : (low : Key) (above : Option Entry) (move : Move) → IsFinal (call.NextEntry low above) move → IsEntryOrEnd move
IsEntryOrEnd-final low above (Entered first second) is = tt
IsEntryOrEnd-final low above End is = tt
IsEntryOrEnd-final low above (Need n) is = absurd is.last
IsEntryOrEnd-final low above Fresh is = absurd is.last
IsEntryOrEnd-final low above (After from) is = absurd is.last
IsEntryOrEnd-final low above (Find relation columns values) is = absurd is.last
IsEntryOrEnd-final low above (Broken page) is = absurd is.last
IsEntryOrEnd-final low above NoMemory is = absurd is.last
IsEntryOrEnd-final low above move is = absurd is.may

next-entry : (o : Option Entry) (first second : Key) → NextIs o (Entered first second) → o ≡ Some (first, second)
next-entry None first second is = absurd (cc)
next-entry (Some e) first second is = ap entry_in (sym is)

next-end : (o : Option Entry) → NextIs o End → o ≡ None
next-end None is = refl
next-end (Some e) is = absurd (cc)

pub entry-answered : (box : Attachment) (inst : Instance) (low : Key) (above : Option Entry) (view : View) (P after : Pages) (move : Move) (content : Content) → IsEntryOrEnd move → Answers box inst (call.NextEntry low above) view P after move →
    Holds box inst P content → find (is_entry_above low above) content.entries ≡ entry_in move
entry-answered box inst low above view P after (Entered first second) content is answers holds = next-entry (find (is_entry_above low above) content.entries) first second (answers content holds)
entry-answered box inst low above view P after End content is answers holds = next-end (find (is_entry_above low above) content.entries) (answers content holds)
entry-answered box inst low above view P after move content is answers holds = absurd is
