-- The kinds of the keyword table (ECMA-262, 12.7.2) under the words themselves: 'if' is the kind of the word `if`.
pub use Rattle.js_base.specs.declared.kind.Kind.TheVariants.{Break as 'break', Case as 'case', Catch as 'catch', Class as 'class', Const as 'const', Continue as 'continue', Debugger as 'debugger', Default as 'default', Delete as 'delete', Do as 'do', Else as 'else', Enum as 'enum', Export as 'export', Extends as 'extends', False as 'false', Finally as 'finally', For as 'for', Function as 'function', If as 'if', Import as 'import', In as 'in', Instanceof as 'instanceof', New as 'new', Null as 'null', Return as 'return', Super as 'super', Switch as 'switch', This as 'this', Throw as 'throw', True as 'true', Try as 'try', Typeof as 'typeof', Var as 'var', Void as 'void', While as 'while', With as 'with', Let as 'let', Static as 'static', Implements as 'implements', Interface as 'interface', Package as 'package', Private as 'private', Protected as 'protected', Public as 'public', Yield as 'yield', Await as 'await', Async as 'async', Of as 'of', Get as 'get', Set as 'set', As as 'as', From as 'from', Assert as 'assert', Accessor as 'accessor', Using as 'using', Defer as 'defer', Source as 'source', Meta as 'meta', Target as 'target', Satisfies as 'satisfies', Constructor as 'constructor', TypeWord as 'type'}
