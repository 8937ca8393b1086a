-- The laws of figures. For readers: `GrammarLaws`, that the grammar and the function say the same of every text; `NearestLaws`, that the number is the
-- nearest, as a fact about whole numbers; `DigitLaws`, what digits without trailing zeros are; `Worked`. Below them what the proofs cite: one operation is
-- one rounding (`Scaling`), a fraction by cases (`FractionLaws`), integers (`IntegerLaws`), a text's parts as the code finds them (`TextLaws`), runs of digits
-- (`TallyLaws`), the function's cases (`FigureLaws`); and for the grammar values as d × 10 ^ e (`ValueLaws`), blanks and digits (`RunLaws`), forms (`FormLaws`).
pub mod IntegerLaws
pub mod FractionLaws
pub mod Scaling
pub mod NearestLaws
pub mod TextLaws
pub mod TallyLaws
pub mod FigureLaws
pub mod DigitLaws
pub mod ValueLaws
pub mod RunLaws
pub mod FormLaws
pub mod GrammarLaws
pub mod FiguredLaws
pub mod Worked
