-- What is answered for the bytes of a list (01, "Workspace and code"; refusals 10 and 11).
use Rattle.std.specs.Prelude.{ℕ, ◌≡◌, cond, ◌&&◌, List, length, leb, Result, Ok, Err}
use Rattle.std.proofs.lemmas.List.Edits.{sets}
use Rattle.model.specs.Limits.{code_limit}
use Rattle.model.specs.Instruction.{Instruction}
use Rattle.model.specs.Code.{bytes_in, place_of, encode}
use Rattle.model.specs.Answers.{refused_for}
use Rattle.model.specs.declared.Refusal.{Refusal}
use Rattle.model.specs.declared.Reason.TheVariants.{TooLarge, Short}
use Rattle.assembler.specs.Listed.{Listed}
use Rattle.assembler.specs.declared.entry.Entry.{Entry}

-- the answer for a list: over 16,384 bytes 10 at place 0; the buffer too short 11 with the size needed; else the size
abbrev pub assembled : (room : ℕ) → List Instruction → Result ℕ Refusal
assembled room xs =
    cond (leb (bytes_in xs) code_limit)
    (cond (leb (bytes_in xs) room) (Ok (bytes_in xs)) (Err (refused_for Short (bytes_in xs))))
    (Err (refused_for TooLarge 0))

-- the buffer afterwards: the code in front, or on a refusal all as it was
abbrev pub bytes_into : (room : ℕ) → List Instruction → (buffer : List ℕ) → List ℕ
bytes_into room xs o = cond (leb (bytes_in xs) code_limit && leb (bytes_in xs) room) (sets o 0 (encode (place_of xs) xs)) o

-- so it is for every list that the assembler is for
abbrev pub Assembles : (list : List Entry) → (count : ℕ) → (before after : List ℕ) → Result ℕ Refusal → Type 0
Assembles l n before after r =
    (xs : List Instruction) → Listed xs n l → (r ≡ assembled (length before) xs) × (after ≡ bytes_into (length before) xs before)
