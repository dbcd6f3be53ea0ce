-- Which rules with codes of ours hold doesn't depend on the extensions.
use Rattle.std.proofs.Common.{◌≡◌, Bool, true, false, not, ◌&&◌, [], Option, Some, None}
use Rattle.std.specs.Prelude.{All}
use Rattle.std.proofs.lemmas.List.Elements.{All-weaker}
use Rattle.sb_rule.specs.declared.rule.Rule.{Rule}
use Rattle.sb_rule.specs.declared.rule.Rule.TheVariants.{Foreign}
use Rattle.sb_relation.specs.Db.{Name, Attached, Relation, Db}
use Rattle.sb_relation.specs.Laws.{is_foreign}
use Rattle.sb_fold.specs.Extensions.{Extensions}
use Rattle.sb_plain.specs.Lawful.{IsLawful, IsSound, IsSoundNow, AllHold, MayBeOpen, is_deferred}
use Rattle.sb_plain.specs.State.{Transaction}
use Rattle.sb_plain.proofs.SoundLemmas.{HoldsAt}
use Rattle.sb_lawful_rows.specs.States as rows
use Rattle.sb_lawful_rows.specs.Work.{IsLawfulWith}
use Rattle.sb_lawful_steps.proofs.Alike as lawful
use Rattle.sb_sound.specs.Laws.{AlikeAreSound, DownIsSound}
use Rattle.sb_sound.proofs.Holding.{IsOfOurs, all_ours, ours_now}

-- a rule of no other code is asked of no extension
same_rule : (ext other : Extensions) (meant : Rule → Bool) → IsOfOurs meant → (db : Db) (name : Name) (rule : Rule) → (meant rule ≡ true → HoldsAt ext db name rule) → meant rule ≡ true → HoldsAt other db name rule
same_rule ext other meant of db name (Foreign code desc) holds is = let none : meant (Foreign code desc) ≡ false = of.ours code desc in absurd (cc)
same_rule ext other meant of db name _ holds is = holds is

same_holds : (ext other : Extensions) (meant : Rule → Bool) → IsOfOurs meant → (db : Db) → AllHold ext meant db → AllHold other meant db
same_holds ext other meant of db =
    All-weaker (λ (e : Name × Relation). All (λ a. meant a.rule ≡ true → HoldsAt ext db e.0 a.rule) e.1.attachments)
    (λ (e : Name × Relation). All (λ a. meant a.rule ≡ true → HoldsAt other db e.0 a.rule) e.1.attachments)
    (λ e.
    All-weaker (λ (a : Attached). meant a.rule ≡ true → HoldsAt ext db e.0 a.rule) (λ (a : Attached). meant a.rule ≡ true → HoldsAt other db e.0 a.rule)
    (λ a holds. same_rule ext other meant of db e.0 a.rule holds) e.1.attachments) db

module _ (ext other : Extensions) where
  sound_now : (db : Db) → IsSoundNow ext db → IsSoundNow other db
  sound_now db = same_holds ext other (λ rule. not (is_foreign rule) && not (is_deferred rule)) ours_now db

  sound_open : (transaction : Option Transaction) → rows.MayBeOpen other transaction → MayBeOpen ext transaction → MayBeOpen other transaction
  sound_open None lawful open_one = tt
  sound_open (Some t) lawful open_one = record {
    lawful = lawful.stands.lawful;
    sound = sound_now t.db open_one.sound;
    points = λ k d below. record { lawful = (lawful.points k d below).lawful; sound = sound_now _ (open_one.points k d below).sound };
  }

pub alike-are-sound : AlikeAreSound
alike-are-sound ext other s alike sound =
    let along = lawful.alike-are-lawful ext other s alike sound.along in
    record {
      along = along;
      sound = record {
        commits = All-weaker (λ (db : Db). IsLawfulWith other db []) (IsLawful other) (λ db is. is.lawful) s.commits along.lawful.commits;
        sound = All-weaker (IsSound ext) (IsSound other) (λ db is. same_holds ext other (λ rule. not (is_foreign rule)) all_ours db is) s.commits sound.sound.sound;
        open_one = sound_open ext other s.transaction along.lawful.open_one sound.sound.open_one;
      };
    }

pub down-is-sound : DownIsSound
down-is-sound ext s sound = record {
  along = lawful.down-is-lawful ext s sound.along;
  sound = record { commits = sound.sound.commits; sound = sound.sound.sound; open_one = sound.sound.open_one };
}
