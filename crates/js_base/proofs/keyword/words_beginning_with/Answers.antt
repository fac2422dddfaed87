use Rattle.std.proofs.Common.{refl, sym, false, arith, ◌≡◌}
use Rattle.std.proofs.lemmas.Bool.Decides.{nat_tests}
use Rattle.js_base.proofs.KeywordLemmas.{is_among, first_bytes, filter-words-none}
use Rattle.js_base.specs.Texts.{words}
use Rattle.js_base.proofs.keyword.words_beginning_with.Goals as goal

pub returns-in-97 : goal.returns-in-97
unfolding words
returns-in-97 c = rw c.in-97.is refl

pub returns-in-98 : goal.returns-in-98
unfolding words
returns-in-98 c = rw c.in-98.is refl

pub returns-in-99 : goal.returns-in-99
unfolding words
returns-in-99 c = rw c.in-99.is refl

pub returns-in-100 : goal.returns-in-100
unfolding words
returns-in-100 c = rw c.in-100.is refl

pub returns-in-101 : goal.returns-in-101
unfolding words
returns-in-101 c = rw c.in-101.is refl

pub returns-in-102 : goal.returns-in-102
unfolding words
returns-in-102 c = rw c.in-102.is refl

pub returns-in-103 : goal.returns-in-103
unfolding words
returns-in-103 c = rw c.in-103.is refl

pub returns-in-105 : goal.returns-in-105
unfolding words
returns-in-105 c = rw c.in-105.is refl

pub returns-in-108 : goal.returns-in-108
unfolding words
returns-in-108 c = rw c.in-108.is refl

pub returns-in-109 : goal.returns-in-109
unfolding words
returns-in-109 c = rw c.in-109.is refl

pub returns-in-110 : goal.returns-in-110
unfolding words
returns-in-110 c = rw c.in-110.is refl

pub returns-in-111 : goal.returns-in-111
unfolding words
returns-in-111 c = rw c.in-111.is refl

pub returns-in-112 : goal.returns-in-112
unfolding words
returns-in-112 c = rw c.in-112.is refl

pub returns-in-114 : goal.returns-in-114
unfolding words
returns-in-114 c = rw c.in-114.is refl

pub returns-in-115 : goal.returns-in-115
unfolding words
returns-in-115 c = rw c.in-115.is refl

pub returns-in-116 : goal.returns-in-116
unfolding words
returns-in-116 c = rw c.in-116.is refl

pub returns-in-117 : goal.returns-in-117
unfolding words
returns-in-117 c = rw c.in-117.is refl

pub returns-in-118 : goal.returns-in-118
unfolding words
returns-in-118 c = rw c.in-118.is refl

pub returns-in-119 : goal.returns-in-119
unfolding words
returns-in-119 c = rw c.in-119.is refl

pub returns-in-121 : goal.returns-in-121
unfolding words
returns-in-121 c = rw c.in-121.is refl

pub returns-in_default : goal.returns-in_default
returns-in_default c =
    let none : is_among first_bytes c.args.first ≡ false = grind (arith, nat_tests) in
    sym (filter-words-none c.args.first none)
