-- From what the check answers to what reading answers, and what follows. Assumes nothing.
use Rattle.std.proofs.Common.{◌≡◌, ℕ, Bool, true, false, cond, not, List, Some, None, Ok, Err, Option, Result, refl, ap, ◌∙◌, arith}
use Rattle.theory.specs.Answers.{first_row, unless, verdict}
use Rattle.theory.specs.Layouts.{LawfulKind}
use Rattle.theory.specs.Formats.{Part, lawful_format}
use Rattle.theory.specs.Packets.{packet_rows}
use Rattle.formats.specs.Meaning.{format_check}
use Rattle.theory.specs.Naming.{SoundNaming}
use Rattle.theory.proofs.Naming.{sound_naming}
use Rattle.packets.specs.Reading.{Carried, carried, reading_refusal, packet_check, reading_check, reading}
use Rattle.packets.specs.Carried.{carried_by}

module _ (t : Part) (q : List ℕ) where
  -- row 4 is the first of the table
  pub limits_refuse : (n : ℕ) → Err n ≡ format_check t.format → Err n ≡ reading_check t q
  limits_refuse n = go (lawful_format t.format) (first_row (packet_rows t q))
    where
      go : (b : Bool) (o : Option ℕ) → ◌≡◌ {A = Result (Unit {0}) ℕ} (Err n) (cond b (Ok tt) (Err 4))
          → ◌≡◌ {A = Result (Unit {0}) ℕ} (Err n) (verdict (cond (not b) (Some 4) o))
      go true o e = absurd (let z : ◌≡◌ {A = ℕ} 0 1 = cc in omega arith)
      go false o e = e

  pub limits_pass : Ok tt ≡ format_check t.format → packet_check t q ≡ reading_check t q
  limits_pass = go (lawful_format t.format) (first_row (packet_rows t q))
    where
      go : (b : Bool) (o : Option ℕ) → ◌≡◌ {A = Result (Unit {0}) ℕ} (Ok tt) (cond b (Ok tt) (Err 4))
          → verdict o ≡ verdict (cond (not b) (Some 4) o)
      go true o e = refl
      go false o e = absurd (let z : ◌≡◌ {A = ℕ} 0 1 = cc in omega arith)

  pub refused : (n : ℕ) → Err n ≡ reading_check t q → Err n ≡ reading t q
  refused n = go (reading_refusal t q)
    where
      go : (o : Option ℕ) → ◌≡◌ {A = Result (Unit {0}) ℕ} (Err n) (unless o tt) → ◌≡◌ {A = Result Carried ℕ} (Err n) (unless o (carried t q))
      go None e = absurd (let z : ◌≡◌ {A = ℕ} 0 1 = cc in omega arith)
      go (Some row) e = let z : n ≡ row = cc in ap Err z

  pub accepted : Ok tt ≡ reading_check t q → Ok (carried t q) ≡ reading t q
  accepted = go (reading_refusal t q)
    where
      go : (o : Option ℕ) → ◌≡◌ {A = Result (Unit {0}) ℕ} (Ok tt) (unless o tt)
          → ◌≡◌ {A = Result Carried ℕ} (Ok (carried t q)) (unless o (carried t q))
      go None e = refl
      go (Some row) e = absurd (let z : ◌≡◌ {A = ℕ} 0 1 = cc in omega arith)

  -- a packet that is not refused names soundly
  pub sound : LawfulKind t.format.kind → (w : Carried) → Ok w ≡ reading t q → SoundNaming t q
  sound law w = go (lawful_format t.format) refl (first_row (packet_rows t q)) refl
    where
      go : (b : Bool) → lawful_format t.format ≡ b → (o : Option ℕ) → first_row (packet_rows t q) ≡ o
          → Ok w ≡ unless (cond (not b) (Some 4) o) (carried t q) → SoundNaming t q
      go false l o n k = absurd (let z : ◌≡◌ {A = ℕ} 0 1 = cc in omega arith)
      go true l (Some row) n k = absurd (let z : ◌≡◌ {A = ℕ} 0 1 = cc in omega arith)
      go true l None n k = sound_naming t law q l n

-- the same octets and the same numbers carry the same
pub same_carried : (q : List ℕ) (a b c d e f : ℕ) → a ≡ d → b ≡ e → c ≡ f → carried_by q a b c ≡ carried_by q d e f
same_carried q a b c d e f x y z =
    ap (λ n. carried_by q n b c) x ∙ ap (λ n. carried_by q d n c) y ∙ ap (λ n. carried_by q d e n) z
