-- What is well typed, over a database of which the named relations are seen.
use Rattle.std.proofs.Common.{◌≡◌, ◌&&◌, Bool, false, Option, bytes_eq, sym, ap, subst, ◌∙◌}
use Rattle.std.specs.List.{find}
use Rattle.sb_relation.specs.Db.{Name, Row, Relation, Db, relation_at}
use Rattle.sb_fold.specs.Extensions.{Extensions}
use Rattle.sb_plain.specs.declared.command.Command.{Command}
use Rattle.sb_plain.specs.declared.command.Command.TheVariants as command
use Rattle.sb_plain.specs.Refusing.{is_lookup, is_range, is_well_kinded}
use Rattle.sb_refusals.specs.declared.seen.Named.{Named}
use Rattle.sb_refusals.specs.Seen.{IsSeen, AreSeen, attachments_of, columns_of}

own_seen : (db : Db) (c d : Command) (named : Named) → c ≡ d → AreSeen db c named → AreSeen db d named
own_seen db c d named is seen = subst (λ (x : Command). AreSeen db x named) is seen

pub lookup_kinded : (ext : Extensions) (db : Db) (c : Command) (named : Named) (relation name : Name) (values : Row) (b : Bool) → c ≡ command.Lookup relation name values → AreSeen db c named
    → ((r : Option Relation) → IsSeen r named.own → b ≡ is_lookup (columns_of r) (find (λ a. bytes_eq a.name name) (attachments_of r)) values) → b ≡ is_well_kinded ext db c
lookup_kinded ext db c named relation name values b is seen h =
    h (relation_at db relation) (own_seen db c (command.Lookup relation name values) named is seen).own ∙ sym (ap (is_well_kinded ext db) is)

pub range_kinded : (ext : Extensions) (db : Db) (c : Command) (named : Named) (relation name : Name) (low high : Row) (a b : Bool) → c ≡ command.Range relation name low high → AreSeen db c named
    → ((r : Option Relation) → IsSeen r named.own → a ≡ is_range (columns_of r) (find (λ a. bytes_eq a.name name) (attachments_of r)) low)
    → ((r : Option Relation) → IsSeen r named.own → b ≡ is_range (columns_of r) (find (λ a. bytes_eq a.name name) (attachments_of r)) high)
    → (a && b) ≡ is_well_kinded ext db c
range_kinded ext db c named relation name low high a b is seen h k =
    let own = (own_seen db c (command.Range relation name low high) named is seen).own in
    ap (λ t. t && b) (h (relation_at db relation) own) ∙ ap (λ t. is_range (columns_of (relation_at db relation)) (find (λ a. bytes_eq a.name name) (attachments_of (relation_at db relation))) low && t) (k (relation_at db relation) own)
    ∙ sym (ap (is_well_kinded ext db) is)

pub range_not_kinded : (ext : Extensions) (db : Db) (c : Command) (named : Named) (relation name : Name) (low high : Row) (a : Bool) → c ≡ command.Range relation name low high → AreSeen db c named
    → ((r : Option Relation) → IsSeen r named.own → a ≡ is_range (columns_of r) (find (λ a. bytes_eq a.name name) (attachments_of r)) low)
    → a ≡ false → a ≡ is_well_kinded ext db c
range_not_kinded ext db c named relation name low high a is seen h wrong =
    let own = (own_seen db c (command.Range relation name low high) named is seen).own in
    wrong ∙ ap (λ t. t && is_range (columns_of (relation_at db relation)) (find (λ a. bytes_eq a.name name) (attachments_of (relation_at db relation))) high) (sym wrong ∙ h (relation_at db relation) own)
    ∙ sym (ap (is_well_kinded ext db) is)
