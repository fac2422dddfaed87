-- The kinds of lexemes, and tests of them.
use Rattle.std.specs.Prelude.{ℕ, Bool, true, false, List, [], ◌∷◌, nat_eq, ◌&&◌, ◌||◌}
pub use Rattle.js_base.specs.declared.kind.Kind.{Kind}
pub use Rattle.js_base.specs.declared.kind.Kind.TheVariants.{Break, Case, Catch, Class, Const, Continue, Debugger, Default, Delete, Do, Else, Enum, Export, Extends, False, Finally, For, Function, If, Import, In, Instanceof, New, Null, Return, Super, Switch, This, Throw, True, Try, Typeof, Var, Void, While, With, Let, Static, Implements, Interface, Package, Private, Protected, Public, Yield, Await, Async, Of, Get, Set, As, From, Assert, Accessor, Using, Defer, Source, Meta, Target, Satisfies, Constructor, TypeWord, LParen, RParen, LCurly, RCurly, LBrack, RBrack, Semicolon, Comma, Colon, Dot, Dot3, Arrow, At, Tilde, Bang, Question, QuestionDot, Question2, Question2Eq, Plus, Plus2, PlusEq, Minus, Minus2, MinusEq, Star, Star2, StarEq, Star2Eq, Slash, SlashEq, Percent, PercentEq, Eq, Eq2, Eq3, Neq, Neq2, LAngle, LtEq, RAngle, GtEq, ShiftLeft, ShiftLeftEq, ShiftRight, ShiftRightEq, ShiftRight3, ShiftRight3Eq, Amp, Amp2, AmpEq, Amp2Eq, Pipe, Pipe2, PipeEq, Pipe2Eq, Caret, CaretEq, Ident, PrivateIdentifier, Str, Decimal, Float, Binary, Octal, Hex, PositiveExponential, NegativeExponential, DecimalBigInt, BinaryBigInt, OctalBigInt, HexBigInt, RegExp, NoSubstitutionTemplate, TemplateHead, TemplateMiddle, TemplateTail, HashbangComment, Eof, Undetermined}

-- the place of a kind in its list
abbrev pub code : Kind → ℕ
code Break = 0
code Case = 1
code Catch = 2
code Class = 3
code Const = 4
code Continue = 5
code Debugger = 6
code Default = 7
code Delete = 8
code Do = 9
code Else = 10
code Enum = 11
code Export = 12
code Extends = 13
code False = 14
code Finally = 15
code For = 16
code Function = 17
code If = 18
code Import = 19
code In = 20
code Instanceof = 21
code New = 22
code Null = 23
code Return = 24
code Super = 25
code Switch = 26
code This = 27
code Throw = 28
code True = 29
code Try = 30
code Typeof = 31
code Var = 32
code Void = 33
code While = 34
code With = 35
code Let = 36
code Static = 37
code Implements = 38
code Interface = 39
code Package = 40
code Private = 41
code Protected = 42
code Public = 43
code Yield = 44
code Await = 45
code Async = 46
code Of = 47
code Get = 48
code Set = 49
code As = 50
code From = 51
code Assert = 52
code Accessor = 53
code Using = 54
code Defer = 55
code Source = 56
code Meta = 57
code Target = 58
code Satisfies = 59
code Constructor = 60
code TypeWord = 61
code LParen = 62
code RParen = 63
code LCurly = 64
code RCurly = 65
code LBrack = 66
code RBrack = 67
code Semicolon = 68
code Comma = 69
code Colon = 70
code Dot = 71
code Dot3 = 72
code Arrow = 73
code At = 74
code Tilde = 75
code Bang = 76
code Question = 77
code QuestionDot = 78
code Question2 = 79
code Question2Eq = 80
code Plus = 81
code Plus2 = 82
code PlusEq = 83
code Minus = 84
code Minus2 = 85
code MinusEq = 86
code Star = 87
code Star2 = 88
code StarEq = 89
code Star2Eq = 90
code Slash = 91
code SlashEq = 92
code Percent = 93
code PercentEq = 94
code Eq = 95
code Eq2 = 96
code Eq3 = 97
code Neq = 98
code Neq2 = 99
code LAngle = 100
code LtEq = 101
code RAngle = 102
code GtEq = 103
code ShiftLeft = 104
code ShiftLeftEq = 105
code ShiftRight = 106
code ShiftRightEq = 107
code ShiftRight3 = 108
code ShiftRight3Eq = 109
code Amp = 110
code Amp2 = 111
code AmpEq = 112
code Amp2Eq = 113
code Pipe = 114
code Pipe2 = 115
code PipeEq = 116
code Pipe2Eq = 117
code Caret = 118
code CaretEq = 119
code Ident = 120
code PrivateIdentifier = 121
code Str = 122
code Decimal = 123
code Float = 124
code Binary = 125
code Octal = 126
code Hex = 127
code PositiveExponential = 128
code NegativeExponential = 129
code DecimalBigInt = 130
code BinaryBigInt = 131
code OctalBigInt = 132
code HexBigInt = 133
code RegExp = 134
code NoSubstitutionTemplate = 135
code TemplateHead = 136
code TemplateMiddle = 137
code TemplateTail = 138
code HashbangComment = 139
code Eof = 140
code Undetermined = 141

-- whether two kinds are the same
abbrev pub same_kind : Kind → Kind → Bool
same_kind a b = nat_eq (code a) (code b)

-- whether a kind stands in a list
abbrev pub one_of_kinds : List Kind → Kind → Bool
one_of_kinds [] k = false
one_of_kinds (a ∷ as') k = same_kind a k || one_of_kinds as' k

-- whether each kind of a list passes a test
abbrev pub every_kind : (Kind → Bool) → List Kind → Bool
every_kind p [] = true
every_kind p (k ∷ ks) = p k && every_kind p ks

-- every kind, in the order of `code`
unfoldable pub kinds : List Kind
kinds = Break ∷ Case ∷ Catch ∷ Class ∷ Const ∷ Continue ∷ Debugger ∷ Default ∷ Delete ∷ Do ∷ Else ∷ Enum ∷ Export ∷ Extends ∷ False ∷ Finally ∷ For ∷ Function ∷ If ∷ Import ∷ In ∷ Instanceof ∷ New ∷ Null ∷ Return ∷ Super ∷ Switch ∷ This ∷ Throw ∷ True ∷ Try ∷ Typeof ∷ Var ∷ Void ∷ While ∷ With ∷ Let ∷ Static ∷ Implements ∷ Interface ∷ Package ∷ Private ∷ Protected ∷ Public ∷ Yield ∷ Await ∷ Async ∷ Of ∷ Get ∷ Set ∷ As ∷ From ∷ Assert ∷ Accessor ∷ Using ∷ Defer ∷ Source ∷ Meta ∷ Target ∷ Satisfies ∷ Constructor ∷ TypeWord ∷ LParen ∷ RParen ∷ LCurly ∷ RCurly ∷ LBrack ∷ RBrack ∷ Semicolon ∷ Comma ∷ Colon ∷ Dot ∷ Dot3 ∷ Arrow ∷ At ∷ Tilde ∷ Bang ∷ Question ∷ QuestionDot ∷ Question2 ∷ Question2Eq ∷ Plus ∷ Plus2 ∷ PlusEq ∷ Minus ∷ Minus2 ∷ MinusEq ∷ Star ∷ Star2 ∷ StarEq ∷ Star2Eq ∷ Slash ∷ SlashEq ∷ Percent ∷ PercentEq ∷ Eq ∷ Eq2 ∷ Eq3 ∷ Neq ∷ Neq2 ∷ LAngle ∷ LtEq ∷ RAngle ∷ GtEq ∷ ShiftLeft ∷ ShiftLeftEq ∷ ShiftRight ∷ ShiftRightEq ∷ ShiftRight3 ∷ ShiftRight3Eq ∷ Amp ∷ Amp2 ∷ AmpEq ∷ Amp2Eq ∷ Pipe ∷ Pipe2 ∷ PipeEq ∷ Pipe2Eq ∷ Caret ∷ CaretEq ∷ Ident ∷ PrivateIdentifier ∷ Str ∷ Decimal ∷ Float ∷ Binary ∷ Octal ∷ Hex ∷ PositiveExponential ∷ NegativeExponential ∷ DecimalBigInt ∷ BinaryBigInt ∷ OctalBigInt ∷ HexBigInt ∷ RegExp ∷ NoSubstitutionTemplate ∷ TemplateHead ∷ TemplateMiddle ∷ TemplateTail ∷ HashbangComment ∷ Eof ∷ Undetermined ∷ []
