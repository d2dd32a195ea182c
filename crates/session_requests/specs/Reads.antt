-- What a line of a session asks.
use Rattle.std.specs.Prelude.{◌≡◌, ℕ, List, Option, Some, None, Result, Ok, Err}
use Rattle.json_lines.specs.LineTexts.{data_of}
use Rattle.serde_json.specs.Data.{Data}
use Rattle.session_requests.specs.BadLines.{IsBad}
use Rattle.session_requests.specs.Requests.{IsRequest}
use Rattle.session_requests.specs.declared.bad_line.BadLine.{BadLine}
use Rattle.session_requests.specs.declared.bad_line.BadLine.TheVariants.{NotJson}
use Rattle.session_requests.specs.declared.request.Request.{Request}

-- what is told of data: the request that it is, or the first cause for which it is none
abbrev pub Answers : Data → Result Request BadLine → Type 0
Answers d (Ok request) = IsRequest d request
Answers d (Err bad) = IsBad d bad

-- the same of what may have been no JSON at all
abbrev pub AnswersRead : Option Data → Result Request BadLine → Type 0
AnswersRead None answer = answer ≡ Err NotJson
AnswersRead (Some d) answer = Answers d answer

-- what is told of a line without its newline
abbrev pub Reads : List ℕ → Result Request BadLine → Type 0
Reads line answer = AnswersRead (data_of line) answer
