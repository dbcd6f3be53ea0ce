-- Reading all of the tokens: the command that they spell, or the place of the first misfit.
use Rattle.std.proofs.Common.{◌≡◌, ◌≤◌, ℕ, ◌+◌, ◌-◌, List, [], ◌∷◌, ◌++◌, refl, sym, ◌∙◌, ap, subst, Ok, Err, length, take, drop, arith, append_assoc, length-append}
use Rattle.std.proofs.lemmas.List.{nil_from_length, append-nil, length-map, drop-map, take-append-drop}
use Rattle.std.proofs.Math.Seq.{drop-append_seam}
use Rattle.sb_plain.specs.declared.command.Command.{Command}
use Rattle.sb_tokens.specs.declared.token.Token.{Token}
use Rattle.sb_tokens.specs.declared.token.Placed.{Placed}
use Rattle.sb_tokens.specs.Rows.{tokens_of}
use Rattle.sb_grammar.specs.Grammar.{Spells}
use Rattle.sb_grammar.specs.Columns.{Misfit, FirstMisfit}
use Rattle.sb_language.specs.Reading.{Read}
use Rattle.sb_language.proofs.Front.{Front, Next, left, reads_whole}
use Rattle.sb_reader.specs.Commands.{command_at}
use Rattle.std.specs.Borrow.{Bor}
use Rattle.sb_phrases.specs.Gives.{Fails}
use Rattle.sb_reader.specs.Outcome.{IsOrMemory, EndsAtMisfit, FaultIsMisfit, IsMisfitOfLast, SpellsOneCommand}
use Rattle.sb_phrases.specs.declared.fault.Fault.{Fault}
use Rattle.sb_phrases.specs.declared.fault.Fault.TheVariants as fault
use Rattle.sb_phrases.specs.declared.fault.Fault.TheVariants.{NoMemory}
use Rattle.sb_reader.proofs.CommandsRead.{reads_command}

-- ---- what is spelled
pub whole_found : (ts : List Token) (c : Command) → command_at ts ≡ Ok (c, []) → Spells c ts
whole_found ts c e =
    let f : Front Spells ts (Ok (c, [])) = subst (Front Spells ts) e (reads_command.front ts) in
    subst (Spells c) (sym (f.whole ∙ append-nil f.taken)) f.made

-- what is spelled is read whole
pub spelled_whole : (ts : List Token) (r : Read Token Command) (c : Command) → command_at ts ≡ r → Spells c ts → r ≡ Ok (c, [])
spelled_whole ts r c e s = sym e ∙ reads_whole Spells command_at ts c reads_command s

abbrev whole : Command → Read Token Command
whole c = Ok (c, [])

command_of : Command → Read Token Command → Command
command_of c (Ok read) = read.0
command_of c (Err rest) = c

pub one_spelled : (ts : List Token) → SpellsOneCommand ts
unfolding command_of
one_spelled ts a b x y =
    let e : whole a ≡ whole b = sym (reads_whole Spells command_at ts a reads_command x) ∙ reads_whole Spells command_at ts b reads_command y in
    ap (command_of a) e

-- ---- the first misfit
misfit_behind : (taken rest : List Token) → ((b : Command) (more : List Token) → Next rest more → Spells b (taken ++ more) → (more ≡ []) × (rest ≡ [] → ⊥)) → Misfit taken rest
misfit_behind taken [] only = λ c s. (only c [] tt (subst (Spells c) (sym (append-nil taken)) s)).1 refl
misfit_behind taken (t ∷ rest) only = λ b. let e = (only b.value (t ∷ b.more) refl (subst (Spells b.value) (append_assoc taken (t ∷ []) b.more) b.spelled)).0 in cc

pub fault_first : (ts rest : List Token) → command_at ts ≡ Err rest → FirstMisfit ts rest
fault_first ts rest e =
    let f : Front Spells ts (Err rest) = subst (Front Spells ts) e (reads_command.front ts) in
    record {
      before = f.taken;
      whole = f.whole;
      begins = record { value = f.made.value; more = f.made.more; spelled = f.made.spelled };
      misfit = misfit_behind f.taken rest (λ b more n s. absurd (f.only b more n s));
    }

pub rest_first : (ts rest : List Token) (c : Command) (t : Token) → command_at ts ≡ Ok (c, t ∷ rest) → FirstMisfit ts (t ∷ rest)
rest_first ts rest c t e =
    let f : Front Spells ts (Ok (c, t ∷ rest)) = subst (Front Spells ts) e (reads_command.front ts) in
    record {
      before = f.taken;
      whole = f.whole;
      begins = record { value = c; more = []; spelled = subst (Spells c) (sym (append-nil f.taken)) f.made };
      misfit = misfit_behind f.taken (t ∷ rest) (λ b more n s. ((f.only b more n s).1, (λ i. let k = i in cc)));
    }

-- ---- where it is among the placed tokens
pub short_enough : (ts rest : List Placed) → FirstMisfit (tokens_of ts) (tokens_of rest) → length rest ≤ length ts
short_enough ts rest f = omega (arith, sym (length-map ts (λ t. t.token)) ∙ ap length f.whole ∙ length-append f.before (tokens_of rest), length-map rest (λ t. t.token))

pub ends_at : (ts rest end : List Placed) → FirstMisfit (tokens_of ts) (tokens_of rest) → end ≡ drop (length ts - length rest) ts → EndsAtMisfit ts end
ends_at ts rest end f e =
    let k = length ts - length rest in
    let total : length ts ≡ length f.before + length (tokens_of rest) = sym (length-map ts (λ t. t.token)) ∙ ap length f.whole ∙ length-append f.before (tokens_of rest) in
    let count : k ≡ length f.before = omega (arith, total, length-map rest (λ t. t.token)) in
    let same : tokens_of end ≡ tokens_of rest =
    ap tokens_of e ∙ sym (drop-map (λ t. t.token) k ts) ∙ ap (λ us. drop k us) f.whole ∙ ap (λ n. drop n (f.before ++ tokens_of rest)) count ∙ drop-append_seam f.before (tokens_of rest) in
    record { front = take k ts; whole = sym (take-append-drop k ts) ∙ ap (λ us. take k ts ++ us) (sym e); first = subst (FirstMisfit (tokens_of ts)) (sym same) f }

-- ---- what is returned
pub fault_only : (tokens : List Placed) (count : ℕ) (kind : Fault) (c : Command) → IsMisfitOfLast count tokens kind → (Spells c (tokens_of tokens) → ⊥) → Spells c (tokens_of tokens) → IsOrMemory (Err kind) c
fault_only tokens count NoMemory c e n s = tt
fault_only tokens count (fault.Misfit rest) c e n s = n s

pub fault_place : (tokens rest : List Placed) (kind : Fault) → IsMisfitOfLast (length rest) tokens kind → FirstMisfit (tokens_of tokens) (tokens_of rest) → FaultIsMisfit tokens (Err kind)
fault_place tokens rest NoMemory e f = tt
fault_place tokens rest (fault.Misfit end) e f = ends_at tokens rest end.now f e

pub no_fault : (ts rest : List Token) (c : Command) → command_at ts ≡ Err rest → Spells c ts → ⊥
no_fault ts rest c e s = let w = spelled_whole ts (Err rest) c e s in cc

-- something is left
pub left_first : (ts : List Token) (rest : List Placed) (c : Command) → command_at ts ≡ Ok (c, tokens_of rest) → (length rest ≡ 0 → ⊥) → FirstMisfit ts (tokens_of rest)
left_first ts [] c e n = absurd (n refl)
left_first ts (t ∷ rest) c e n = rest_first ts (tokens_of rest) c t.token e

pub left_only : (ts : List Token) (rest : List Placed) (c d : Command) → command_at ts ≡ Ok (d, tokens_of rest) → (length rest ≡ 0 → ⊥) → Spells c ts → ⊥
left_only ts [] c d e n s = n refl
left_only ts (t ∷ rest) c d e n s = let w = ap left (spelled_whole ts (Ok (d, t.token ∷ tokens_of rest)) c e s) in cc

-- nothing is left
pub all_read : (ts : List Token) (rest : List Placed) (c : Command) → command_at ts ≡ Ok (c, tokens_of rest) → length rest ≡ 0 → command_at ts ≡ Ok (c, [])
all_read ts rest c e z = e ∙ ap (λ us. Ok (c, tokens_of us)) (nil_from_length rest z)

pub only_read : (ts : List Token) (c d : Command) → command_at ts ≡ Ok (d, []) → Spells c ts → d ≡ c
only_read ts c d e s = one_spelled ts d c (whole_found ts d e) s

pub misread : (kind : Fault) (rest : Bor (List Placed)) (read : Read Token Command) → kind ≡ fault.Misfit rest → Fails kind read → read ≡ Err (tokens_of rest.now)
misread kind rest read e f = subst (λ k. Fails k read) e f
