-- How a fault is named.
use Rattle.std.specs.Prelude.{ℕ, List, ◌++◌, codes}
use Rattle.cfj_model.specs.declared.fault.LimitKind.{LimitKind}
use Rattle.cfj_model.specs.declared.fault.LimitKind.TheVariants as limit
use Rattle.cfj_model.specs.declared.fault.FaultKind.{FaultKind}
use Rattle.cfj_model.specs.declared.fault.FaultKind.TheVariants.{BadChar, OpenComment, Unexpected, Reserved, NoFeature, Twice, Limit, NotUtf8}

-- the name of a limit
abbrev pub limit_text : LimitKind → List ℕ
limit_text limit.Features = codes "Features"
limit_text limit.Formula = codes "Formula"
limit_text limit.Nest = codes "Nest"
limit_text limit.Name = codes "Name"
limit_text limit.Classes = codes "Classes"
limit_text limit.Fields = codes "Fields"
limit_text limit.Methods = codes "Methods"
limit_text limit.Params = codes "Params"
limit_text limit.Ctor = codes "Ctor"
limit_text limit.Nodes = codes "Nodes"
limit_text limit.Size = codes "Size"

-- the name of a fault, with a blank and its name or limit where it has one
abbrev pub kind_text : FaultKind → List ℕ
kind_text BadChar = codes "BadChar"
kind_text OpenComment = codes "OpenComment"
kind_text Unexpected = codes "Unexpected"
kind_text Reserved = codes "Reserved"
kind_text (NoFeature name) = codes "NoFeature " ++ name
kind_text (Twice name) = codes "Twice " ++ name
kind_text (Limit limit) = codes "Limit " ++ limit_text limit
kind_text NotUtf8 = codes "NotUtf8"
