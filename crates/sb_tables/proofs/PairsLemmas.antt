-- What mirrors and main instances tell of each other.
use Rattle.std.proofs.Common.{◌≡◌, false, [], Option, Some, None, refl}
use Rattle.std.specs.Prelude.{All}
use Rattle.std.specs.Str.{bytes_eq}
use Rattle.std.proofs.lemmas.List.Elements.{All-nil, All-cons}
use Rattle.sb_rule.specs.declared.rule.Side.TheVariants.{Main, Mirror}
use Rattle.sb_rule.specs.declared.rule.Rule.{Rule}
use Rattle.sb_rule.specs.declared.rule.Rule.TheVariants.{TreeIndex, HashIndex, JoinIndex, Stats, Check, Refers, Trigger, Foreign}
use Rattle.sb_relation.specs.Build.{main_of, mirror_of}
use Rattle.sb_relation.specs.Db.{Name}
use Rattle.sb_relation.specs.Fits.{other_relations, relation_of}
use Rattle.sb_deferred.specs.CompleteLaws.{is_child_of}
use Rattle.sb_plain.specs.Refusing.{ties_to}
use Rattle.sb_tables.proofs.WithoutLemmas.{IfTied}

-- the relation of the main instance of a mirror
abbrev pub parent_of : Rule → Option Name
parent_of (JoinIndex Mirror columns other others) = Some other
parent_of (Refers Mirror columns other others mode deferred) = Some other
parent_of _ = None

-- a rule that has a mirror names its relation
pub mirror-tied : (name n : Name) (rule : Rule) → IfTied (λ other mirror. ties_to name rule ≡ bytes_eq other name) (mirror_of n rule)
mirror-tied name n (JoinIndex Main columns other others) = refl
mirror-tied name n (Refers Main columns other others mode deferred) = refl
mirror-tied name n (JoinIndex Mirror columns other others) = tt
mirror-tied name n (Refers Mirror columns other others mode deferred) = tt
mirror-tied name n (TreeIndex columns unique) = tt
mirror-tied name n (HashIndex columns) = tt
mirror-tied name n (Stats column low width) = tt
mirror-tied name n (Check pred deferred) = tt
mirror-tied name n (Trigger on pred a deferred) = tt
mirror-tied name n (Foreign code desc) = tt

-- and the mirror names the relation of that
pub mirror-parent : (n : Name) (rule : Rule) → IfTied (λ other mirror. parent_of mirror ≡ Some n) (mirror_of n rule)
mirror-parent n (JoinIndex Main columns other others) = refl
mirror-parent n (Refers Main columns other others mode deferred) = refl
mirror-parent n (JoinIndex Mirror columns other others) = tt
mirror-parent n (Refers Mirror columns other others mode deferred) = tt
mirror-parent n (TreeIndex columns unique) = tt
mirror-parent n (HashIndex columns) = tt
mirror-parent n (Stats column low width) = tt
mirror-parent n (Check pred deferred) = tt
mirror-parent n (Trigger on pred a deferred) = tt
mirror-parent n (Foreign code desc) = tt

-- the main instance of a mirror is none itself, and has it as its mirror
pub main-parent : (n : Name) (rule : Rule) → IfTied (λ other main. parent_of main ≡ None) (main_of n rule)
main-parent n (JoinIndex Main columns other others) = tt
main-parent n (Refers Main columns other others mode deferred) = tt
main-parent n (JoinIndex Mirror columns other others) = refl
main-parent n (Refers Mirror columns other others mode deferred) = refl
main-parent n (TreeIndex columns unique) = tt
main-parent n (HashIndex columns) = tt
main-parent n (Stats column low width) = tt
main-parent n (Check pred deferred) = tt
main-parent n (Trigger on pred a deferred) = tt
main-parent n (Foreign code desc) = tt

pub main-mirrored : (n : Name) (rule : Rule) → IfTied (λ other main. mirror_of other main ≡ Some (n, rule)) (main_of n rule)
main-mirrored n (JoinIndex Main columns other others) = tt
main-mirrored n (Refers Main columns other others mode deferred) = tt
main-mirrored n (JoinIndex Mirror columns other others) = refl
main-mirrored n (Refers Mirror columns other others mode deferred) = refl
main-mirrored n (TreeIndex columns unique) = tt
main-mirrored n (HashIndex columns) = tt
main-mirrored n (Stats column low width) = tt
main-mirrored n (Check pred deferred) = tt
main-mirrored n (Trigger on pred a deferred) = tt
main-mirrored n (Foreign code desc) = tt

-- a rule that is no tie to a relation names it only as the mirror of one there
pub unnamed-rule : (name n : Name) (rule : Rule) → ties_to name rule ≡ false → IfTied (λ other main. bytes_eq other name ≡ false) (main_of n rule)
    → All (λ other. bytes_eq other name ≡ false) (other_relations rule)
unnamed-rule name n (JoinIndex Main columns other others) untied apart = All-cons (λ o. bytes_eq o name ≡ false) other [] untied (All-nil _)
unnamed-rule name n (Refers Main columns other others mode deferred) untied apart = All-cons (λ o. bytes_eq o name ≡ false) other [] untied (All-nil _)
unnamed-rule name n (JoinIndex Mirror columns other others) untied apart = All-cons (λ o. bytes_eq o name ≡ false) other [] apart (All-nil _)
unnamed-rule name n (Refers Mirror columns other others mode deferred) untied apart = All-cons (λ o. bytes_eq o name ≡ false) other [] apart (All-nil _)
unnamed-rule name n (Trigger on pred a deferred) untied apart = All-cons (λ o. bytes_eq o name ≡ false) (relation_of a) [] untied (All-nil _)
unnamed-rule name n (TreeIndex columns unique) untied apart = All-nil _
unnamed-rule name n (HashIndex columns) untied apart = All-nil _
unnamed-rule name n (Stats column low width) untied apart = All-nil _
unnamed-rule name n (Check pred deferred) untied apart = All-nil _
unnamed-rule name n (Foreign code desc) untied apart = All-nil _

-- and is no child of it
pub child-untied : (name : Name) (rule : Rule) → ties_to name rule ≡ false → is_child_of name rule ≡ false
child-untied name (Refers Main columns other others mode deferred) untied = untied
child-untied name (Refers Mirror columns other others mode deferred) untied = refl
child-untied name (JoinIndex side columns other others) untied = refl
child-untied name (TreeIndex columns unique) untied = refl
child-untied name (HashIndex columns) untied = refl
child-untied name (Stats column low width) untied = refl
child-untied name (Check pred deferred) untied = refl
child-untied name (Trigger on pred a deferred) untied = refl
child-untied name (Foreign code desc) untied = refl
