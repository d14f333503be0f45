-- What C is handed.
use Rattle.std.specs.Prelude.{◌≡◌, ℕ, List, Vec, vec_capacity, vec_len}
use Rattle.std.specs.Global.{Global}
use Rattle.std.specs.Vec.{vec_ptr}
use Rattle.pst_answer.specs.declared.answer.Answer.{Answer}
use Rattle.pst_c.specs.declared.exported.PstAnswer.{PstAnswer}
use Rattle.pst_c.specs.declared.exported.PstText.{PstText}
use Rattle.pst_answer.specs.Answer.{AnswersCall}

-- the place, the length and the room of a text's block
pub record IsHanded (text : Vec ℕ Global) (handed : PstText) : Type 0 where
  pub at : handed.at ≡ vec_ptr text
  pub length : handed.length ≡ vec_len text
  pub room : handed.room ≡ vec_capacity text

-- the status and both texts of the answer to words, over the bytes of a file
pub record Hands (words bytes : List ℕ) (status : ℕ) (handed : PstAnswer) : Type 0 where
  pub answer : Answer
  pub is : AnswersCall words bytes answer
  pub status_is : status ≡ answer.status
  pub text : IsHanded answer.text handed.text
  pub line : IsHanded answer.line handed.line
