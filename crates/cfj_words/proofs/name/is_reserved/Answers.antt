use Rattle.std.proofs.Common.{ap, refl, sym, ◌∙◌, rules}
use Rattle.std.proofs.lemmas.Bool.{ne_eqb}
use Rattle.cfj_words.proofs.Reserved.{among_those, begins_word, of_no_byte}
use Rattle.cfj_words.proofs.name.is_reserved.Goals as goal

pub returns-in-95 : goal.returns-in-95
returns-in-95 c = c.is_among.ensures ∙ among_those 95 c.args.text.now (sym c.first_byte.ensures ∙ c.in-95.is)

pub returns-in-97 : goal.returns-in-97
returns-in-97 c = c.is_among-in-97.ensures ∙ among_those 97 c.args.text.now (sym c.first_byte.ensures ∙ c.in-97.is)

pub returns-in-98 : goal.returns-in-98
returns-in-98 c = c.is_among-in-98.ensures ∙ among_those 98 c.args.text.now (sym c.first_byte.ensures ∙ c.in-98.is)

pub returns-in-99 : goal.returns-in-99
returns-in-99 c = c.is_among-in-99.ensures ∙ among_those 99 c.args.text.now (sym c.first_byte.ensures ∙ c.in-99.is)

pub returns-in-100 : goal.returns-in-100
returns-in-100 c = c.is_among-in-100.ensures ∙ among_those 100 c.args.text.now (sym c.first_byte.ensures ∙ c.in-100.is)

pub returns-in-101 : goal.returns-in-101
returns-in-101 c = c.is_among-in-101.ensures ∙ among_those 101 c.args.text.now (sym c.first_byte.ensures ∙ c.in-101.is)

pub returns-in-102 : goal.returns-in-102
returns-in-102 c = c.is_among-in-102.ensures ∙ among_those 102 c.args.text.now (sym c.first_byte.ensures ∙ c.in-102.is)

pub returns-in-103 : goal.returns-in-103
returns-in-103 c = c.is_among-in-103.ensures ∙ among_those 103 c.args.text.now (sym c.first_byte.ensures ∙ c.in-103.is)

pub returns-in-105 : goal.returns-in-105
returns-in-105 c = c.is_among-in-105.ensures ∙ among_those 105 c.args.text.now (sym c.first_byte.ensures ∙ c.in-105.is)

pub returns-in-108 : goal.returns-in-108
returns-in-108 c = c.is_among-in-108.ensures ∙ among_those 108 c.args.text.now (sym c.first_byte.ensures ∙ c.in-108.is)

pub returns-in-110 : goal.returns-in-110
returns-in-110 c = c.is_among-in-110.ensures ∙ among_those 110 c.args.text.now (sym c.first_byte.ensures ∙ c.in-110.is)

pub returns-in-112 : goal.returns-in-112
returns-in-112 c = c.is_among-in-112.ensures ∙ among_those 112 c.args.text.now (sym c.first_byte.ensures ∙ c.in-112.is)

pub returns-in-114 : goal.returns-in-114
returns-in-114 c = c.is_among-in-114.ensures ∙ among_those 114 c.args.text.now (sym c.first_byte.ensures ∙ c.in-114.is)

pub returns-in-115 : goal.returns-in-115
returns-in-115 c = c.is_among-in-115.ensures ∙ among_those 115 c.args.text.now (sym c.first_byte.ensures ∙ c.in-115.is)

pub returns-in-116 : goal.returns-in-116
returns-in-116 c = c.is_among-in-116.ensures ∙ among_those 116 c.args.text.now (sym c.first_byte.ensures ∙ c.in-116.is)

pub returns-in-118 : goal.returns-in-118
returns-in-118 c = c.is_among-in-118.ensures ∙ among_those 118 c.args.text.now (sym c.first_byte.ensures ∙ c.in-118.is)

pub returns-in-119 : goal.returns-in-119
returns-in-119 c = c.is_among-in-119.ensures ∙ among_those 119 c.args.text.now (sym c.first_byte.ensures ∙ c.in-119.is)

pub returns-in_default : goal.returns-in_default
returns-in_default c = sym (of_no_byte c.args.text.now (ap begins_word (sym c.first_byte.ensures) ∙ rw (ne_eqb c.first_byte.result 95 (λ e. search rules), ne_eqb c.first_byte.result 97 (λ e. search rules), ne_eqb c.first_byte.result 98 (λ e. search rules), ne_eqb c.first_byte.result 99 (λ e. search rules), ne_eqb c.first_byte.result 100 (λ e. search rules), ne_eqb c.first_byte.result 101 (λ e. search rules), ne_eqb c.first_byte.result 102 (λ e. search rules), ne_eqb c.first_byte.result 103 (λ e. search rules), ne_eqb c.first_byte.result 105 (λ e. search rules), ne_eqb c.first_byte.result 108 (λ e. search rules), ne_eqb c.first_byte.result 110 (λ e. search rules), ne_eqb c.first_byte.result 112 (λ e. search rules), ne_eqb c.first_byte.result 114 (λ e. search rules), ne_eqb c.first_byte.result 115 (λ e. search rules), ne_eqb c.first_byte.result 116 (λ e. search rules), ne_eqb c.first_byte.result 118 (λ e. search rules), ne_eqb c.first_byte.result 119 (λ e. search rules)) refl))
