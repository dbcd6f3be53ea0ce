-- What boxes take is within what the extensions say of their codes.
use Rattle.std.proofs.Common.{◌≡◌, ℕ, suc, ◌<◌, ◌≤◌, ◌==◌, nat_lt, Bool, true, false, cond, List, [], ◌∷◌, ◌++◌, length, map, Some, None}
use Rattle.std.proofs.Common.{refl, ap, sym, subst, ◌∙◌, arith, eqb-true}
use Rattle.std.specs.List.{find}
use Rattle.std.proofs.lemmas.Bool.{ltb-true, ne_eqb}
use Rattle.std.proofs.lemmas.List.{length-map}
use Rattle.std.proofs.lemmas.Option.{same_Some}
use Rattle.sb_value.specs.Code.{ordered_code}
use Rattle.sb_value.specs.declared.schema.Column.{Column}
use Rattle.sb_rule.specs.declared.rule.Rule.{Rule}
use Rattle.sb_rule.specs.declared.rule.Rule.TheVariants.{TreeIndex, HashIndex, JoinIndex, Stats, Check, Refers, Trigger, Foreign}
use Rattle.sb_rule.specs.Spelling.{IsWithinLimits, rule_code}
use Rattle.sb_relation.specs.Content.{page_content}
use Rattle.sb_relation.specs.Db.{Name, Relation, Rows, Db, rows_at, schema_at, values_in}
use Rattle.sb_relation.specs.Foreign.{AttachRules}
use Rattle.sb_relation.specs.Images.{Entry, index_entries, is_before, rising, with_entry}
use Rattle.sb_fold.specs.Bounds.{foreign_bound, foreign_method_bound, method_bound, rule_bound}
use Rattle.sb_fold.specs.Extensions.{Extensions, attach_room, method_room}
use Rattle.sb_ctx.specs.Attachment.{Attachment}
use Rattle.sb_ctx.specs.Laws.{IsAttachment, IsMethod, standard_bound}
use Rattle.sb_ctx.specs.Method.{Method}
use Rattle.sb_registry.specs.Boxes.{Meanings, attachment_of, method_of}
use Rattle.sb_standing.specs.Standing.{is_join}
use Rattle.sb_weights.specs.Rooms.{extensions_of, room_of, rule_room_of}

-- one that is found passes
pub passes : {X : Type 0} (p : X → Bool) (xs : List X) (x : X) → find p xs ≡ Some x → p x ≡ true
passes p [] x is = absurd (cc)
passes p (y ∷ ys) x is = by (p y) refl is (passes p ys x)
  where
    by : (b : Bool) → p y ≡ b → cond b (Some y) (find p ys) ≡ Some x → (find p ys ≡ Some x → p x ≡ true) → p x ≡ true
    by true here is rest = subst (λ z. p z ≡ true) (same_Some y x is) here
    by false other is rest = rest is

-- what is made of the first live one is the first of what is made of all
pub first_made : {X Y : Type 0} (p : X → Bool) (q : Y → Bool) (f : X → Y) → ((x : X) → q (f x) ≡ p x) → (live spare : List X) (x : X)
    → find p live ≡ Some x → find q (map f (live ++ spare)) ≡ Some (f x)
first_made p q f same [] spare x is = absurd (cc)
first_made p q f same (y ∷ live) spare x is = by (p y) (same y) is (first_made p q f same live spare x)
  where
    by : (b : Bool) → q (f y) ≡ b → cond b (Some y) (find p live) ≡ Some x
        → (find p live ≡ Some x → find q (map f (live ++ spare)) ≡ Some (f x))
        → cond (q (f y)) (Some (f y)) (find q (map f (live ++ spare))) ≡ Some (f x)
    by true here is later =
        ap (λ c. cond c (Some (f y)) (find q (map f (live ++ spare)))) here ∙ ap (λ z. Some (f z)) (same_Some y x is)
    by false other is later = ap (λ c. cond c (Some (f y)) (find q (map f (live ++ spare)))) other ∙ later is

-- ---- storage methods
method_bounded : (m : Meanings) (code : ℕ) (box : Method) → method_of code m.methods ≡ Some box → IsMethod box → (r : Relation)
    → r.method ≡ code → box.bound (length r.rows) ≤ method_bound (extensions_of m) r
method_bounded m code box is law r same = by (nat_lt r.method 1000) refl
  where
    own : box.rules.code ≡ code
    own = eqb-true box.rules.code code (passes (λ x. x.rules.code == code) m.methods box is)

    room : method_room (extensions_of m) r.method ≡ Some (room_of box)
    room = ap (method_room (extensions_of m)) same
        ∙ first_made (λ x. x.rules.code == code) (λ x. x.code == code) room_of (λ x. refl) m.methods m.spare_methods box is

    by : (b : Bool) → nat_lt r.method 1000 ≡ b
        → box.bound (length r.rows) ≤ foreign_method_bound (cond b None (method_room (extensions_of m) r.method)) (length r.rows)
    by true is =
        let low : r.method < 1000 = ltb-true r.method 1000 is in
        omega (arith, (law.standard (omega (arith, low, own, same))).bound (length r.rows))
    by false is = omega (arith, ap (λ o. foreign_method_bound o (length r.rows)) room)

-- ---- attachments
-- an index has an entry for each row
length-with_entry : (e : Entry) (es : List Entry) → length (with_entry e es) ≡ suc (length es)
length-with_entry e [] = refl
length-with_entry e (x ∷ es) =
    elim (is_before e x) as (λ b. length (cond b (e ∷ x ∷ es) (x ∷ with_entry e es)) ≡ suc (length (x ∷ es))) [
      | true ↦ refl
      | false ↦ ap suc (length-with_entry e es)
    ]

length-rising : (es : List Entry) → length (rising es) ≡ length es
length-rising [] = refl
length-rising (e ∷ es) = length-with_entry e (rising es) ∙ ap suc (length-rising es)

length-index_entries : (schema : List Column) (columns : List Name) (rows : Rows) → length (index_entries schema columns rows) ≡ length rows
length-index_entries schema columns rows =
    length-rising (map (λ row. (ordered_code (values_in schema row.1 columns), row.0)) rows)
    ∙ length-map {B = Entry} rows (λ row. (ordered_code (values_in schema row.1 columns), row.0))

-- what a code of ours takes for the content of a rule that is no join
standard_within : (ext : Extensions) (box : AttachRules) (db : Db) (name : Name) (rule : Rule) (buckets : ℕ) → rule_code rule < 1000
    → IsWithinLimits rule → is_join rule ≡ false
    → standard_bound (rule_code rule) (page_content (Some box) db name rule buckets) ≤ rule_bound ext db name rule buckets
standard_within ext box db name (TreeIndex columns unique) buckets low limited none =
    omega (arith, length-index_entries (schema_at db name) columns (rows_at db name))
standard_within ext box db name (HashIndex columns) buckets low limited none =
    omega (arith, length-index_entries (schema_at db name) columns (rows_at db name))
standard_within ext box db name (JoinIndex side columns other others) buckets low limited none = absurd (cc)
standard_within ext box db name (Stats column below width) buckets low limited none = omega arith
standard_within ext box db name (Check pred deferred) buckets low limited none = omega arith
standard_within ext box db name (Refers side columns other others mode deferred) buckets low limited none = omega arith
standard_within ext box db name (Trigger on pred act deferred) buckets low limited none = omega arith
standard_within ext box db name (Foreign code desc) buckets low limited none = absurd (omega (arith, low, limited))

standard_bounded : (m : Meanings) (code : ℕ) (box : Attachment) → attachment_of code m.attachments ≡ Some box → IsAttachment box
    → (db : Db) (name : Name) (rule : Rule) (buckets : ℕ) → rule_code rule ≡ code → IsWithinLimits rule → is_join rule ≡ false
    → rule_code rule < 1000 → box.bound (page_content (Some box.rules) db name rule buckets) ≤ rule_bound (extensions_of m) db name rule buckets
standard_bounded m code box is law db name rule buckets same limited none low =
    let content = page_content (Some box.rules) db name rule buckets in
    let its : box.rules.code ≡ rule_code rule =
    eqb-true box.rules.code code (passes (λ a. a.rules.code == code) m.attachments box is) ∙ sym same in
    let most = ap (λ n. standard_bound n content) its in
    let within = standard_within (extensions_of m) box.rules db name rule buckets low limited none in
    omega (arith, law.standard (omega (arith, its, low)) content, most, within)

rule_bounded : (m : Meanings) (code : ℕ) (box : Attachment) → attachment_of code m.attachments ≡ Some box → IsAttachment box
    → (db : Db) (name : Name) (rule : Rule) (buckets : ℕ) → rule_code rule ≡ code → IsWithinLimits rule → is_join rule ≡ false
    → box.bound (page_content (Some box.rules) db name rule buckets) ≤ rule_bound (extensions_of m) db name rule buckets
rule_bounded m code box is law db name (Foreign own desc) buckets same limited none =
    omega (arith, ap (λ o. foreign_bound o desc db name buckets) room)
  where
    room : attach_room (extensions_of m) own ≡ Some (rule_room_of box)
    room = ap (attach_room (extensions_of m)) same
        ∙ first_made (λ a. a.rules.code == code) (λ a. a.code == code) rule_room_of (λ a. refl) m.attachments m.spare_attachments box is
rule_bounded m code box is law db name (TreeIndex columns unique) buckets same limited none =
    standard_bounded m code box is law db name (TreeIndex columns unique) buckets same limited none (omega arith)
rule_bounded m code box is law db name (HashIndex columns) buckets same limited none =
    standard_bounded m code box is law db name (HashIndex columns) buckets same limited none (omega arith)
rule_bounded m code box is law db name (JoinIndex side columns other others) buckets same limited none = absurd (cc)
rule_bounded m code box is law db name (Stats column below width) buckets same limited none =
    standard_bounded m code box is law db name (Stats column below width) buckets same limited none (omega arith)
rule_bounded m code box is law db name (Check pred deferred) buckets same limited none =
    standard_bounded m code box is law db name (Check pred deferred) buckets same limited none (omega arith)
rule_bounded m code box is law db name (Refers side columns other others mode deferred) buckets same limited none =
    standard_bounded m code box is law db name (Refers side columns other others mode deferred) buckets same limited none (omega arith)
rule_bounded m code box is law db name (Trigger on pred act deferred) buckets same limited none =
    standard_bounded m code box is law db name (Trigger on pred act deferred) buckets same limited none (omega arith)

-- only a join has the code of joins
pub joinless-code : (rule : Rule) → is_join rule ≡ false → IsWithinLimits rule → rule_code rule == 3 ≡ false
joinless-code (TreeIndex columns unique) none limited = refl
joinless-code (HashIndex columns) none limited = refl
joinless-code (JoinIndex side columns other others) none limited = absurd (cc)
joinless-code (Stats column low width) none limited = refl
joinless-code (Check pred deferred) none limited = refl
joinless-code (Refers side columns other others mode deferred) none limited = refl
joinless-code (Trigger on pred act deferred) none limited = refl
joinless-code (Foreign code desc) none limited = ne_eqb code 3 (λ is. omega (arith, is, limited))

-- ---- all of them
-- The bound of each live box is within what the extensions say of its code: of any relation, and of any rule within its limits that is no join.
pub record AreBounded (m : Meanings) (ext : Extensions) : Type 0 where
  pub methods : (code : ℕ) (box : Method) → method_of code m.methods ≡ Some box → IsMethod box → (r : Relation) → r.method ≡ code
      → box.bound (length r.rows) ≤ method_bound ext r
  pub attachments : (code : ℕ) (box : Attachment) → attachment_of code m.attachments ≡ Some box → IsAttachment box
      → (db : Db) (name : Name) (rule : Rule) (buckets : ℕ) → rule_code rule ≡ code → IsWithinLimits rule → is_join rule ≡ false
      → box.bound (page_content (Some box.rules) db name rule buckets) ≤ rule_bound ext db name rule buckets

pub are-bounded : (m : Meanings) → AreBounded m (extensions_of m)
are-bounded m = record { methods = method_bounded m; attachments = rule_bounded m }
